-- The flood from the border, which the contracts of its functions cite.
-- The plane holds 0 where a pixel is not close, 1 where it is and no step came yet, 2 where it is ground.
-- Assumes nothing.
use Rattle.std.specs.Prelude.{◌≡◌, ℕ, ◌+◌, ◌-◌, ◌*◌, ◌%◌, ◌<◌, ◌≤◌, ◌==◌, nat_eq, nat_le, nat_lt, Option, Some, None, cond}
use Rattle.std.specs.Prelude.{List, [], ◌∷◌, length, slice_index, slice_set}
use Rattle.std.specs.Bool.{then_some}
use Rattle.plane.specs.Plane.{bit, table}
use Rattle.plane.specs.steps.Sides.{longest_side}
use Rattle.plane.specs.Search.{count_below}
use Rattle.flood.specs.declared.Stack.{Stack}

-- the height of the stack, the stack, and the plane
pub record State : Type 0 where
  pub top : ℕ
  pub stack : List ℕ
  pub plane : List ℕ

abbrev pub state : ℕ → List ℕ → List ℕ → State
state top stack plane = record { top = top; stack = stack; plane = plane }

-- that of the stack and the plane that the functions are passed
abbrev pub state_of : Stack → List ℕ → State
state_of stack plane = state stack.top stack.pixels.now plane

-- pixel q becomes ground and is pushed
unfoldable pub pushed : ℕ → State → State
pushed q s = state (s.top + 1) (slice_set s.stack s.top q) (slice_set s.plane q 2)

-- pixel q is visited: pushed if it is close and no step came yet
unfoldable pub visited : ℕ → State → State
visited q s = cond (slice_index s.plane q == 1) (pushed q s) s

-- the same, if there is such a pixel
unfoldable pub visit_if : Option ℕ → State → State
visit_if None s = s
visit_if (Some q) s = visited q s

-- the pixels of a list are visited, one after the other
unfoldable pub seeded : List ℕ → State → State
seeded [] s = s
seeded (q ∷ l) s = seeded l (visited q s)

-- the pixels above, below, to the left and to the right of p are visited, in a plane of `area` pixels with w columns
unfoldable pub spread_from : ℕ → ℕ → ℕ → State → State
spread_from w area p s =
    visit_if (then_some (nat_lt (p % w) (w - 1)) (p + 1))
    (visit_if (then_some (nat_lt 0 (p % w)) (p - 1))
    (visit_if (then_some (nat_lt (p + w) area) (p + w))
    (visit_if (then_some (nat_le w p) (p - w)) s)))

-- the pixel on top of the stack, and the state without it
abbrev pub on_top : State → ℕ
on_top s = slice_index s.stack (s.top - 1)

abbrev pub popped : State → State
popped s = state (s.top - 1) s.stack s.plane

-- it is taken off, and its neighbours are visited
abbrev pub spread_top : ℕ → State → State
spread_top w s = spread_from w (length s.plane) (on_top s) (popped s)

-- the pixels that are 2, as a mask
unfoldable pub marked : List ℕ → List ℕ
marked plane = table (λ (i : ℕ). bit (slice_index plane i == 2)) 0 (length plane)

-- how many close pixels no step came to
unfoldable pub waiting : List ℕ → ℕ
waiting plane = count_below (length plane) (λ (k : ℕ). nat_eq (slice_index plane k) 1)

-- each of them has room on the stack beside those that are there
pub record Room (s : State) : Type 0 where
  pub small : length s.plane ≤ longest_side * longest_side
  pub tall : length s.plane ≤ length s.stack
  pub fits : s.top + waiting s.plane ≤ length s.plane

-- what `spread` is given: a stack that is not empty, its top pixel in a plane whose rows are whole
pub record Spreads (w : ℕ) (s : State) : Type 0 where
  pub room : Room s
  pub some : 0 < s.top
  pub wide : 0 < w
  pub narrow : w ≤ longest_side
  pub inside : on_top s < length s.plane
  pub row : on_top s % w < w - 1 → on_top s + 1 < length s.plane

-- a plane of 0 and 1
pub record Closed (plane : List ℕ) (h w : ℕ) : Type 0 where
  pub output : length plane ≡ h * w
  pub bits : (k : ℕ) → slice_index plane k ≤ 1
