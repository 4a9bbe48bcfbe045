-- The stack of the flood has room for every close pixel that no step came to, and visits keep it so.
-- Assumes nothing.
use Rattle.std.proofs.Common.{◌≡◌, ℕ, ◌+◌, ◌-◌, ◌*◌, ◌%◌, ◌<◌, ◌≤◌, Bool, true, false, eqb, ltb, leb, Option, Some, None, is_some, IfSome, SomeIff, List, length, get_or, set, sym, refl, ap, ◌∙◌, ⊎_elim, arith, length-set, get_or-set_other, get_or-set_same, ltb-true, eq-eqb, ne_eqb, eqb-true, le-leb}
use borrow.Author.Tests.{lt-leb}
use Rattle.std.specs.Borrow.{MutBor}
use Rattle.std.specs.Bool.{then_some}
use Rattle.plane.specs.steps.Sides.{Sides}
use Rattle.plane.proofs.Plane.{area-most}
use Rattle.plane.proofs.Search.{count_most}
use Rattle.std.proofs.lemmas.Bool.{cases_Bool, cases_lt}
use Rattle.plane.specs.steps.Buffer.{SameBuffer}
use Rattle.labels.proofs.Counts.{count-without}
use Rattle.flood.specs.steps.Flood.{State, state, pushed, visited, visit_if, spread_from}
use Rattle.flood.specs.steps.Flood.{on_top, popped, spread_top, waiting, Room, Spreads, Closed}

abbrev waits : List ℕ → ℕ → Bool
waits plane k = eqb (get_or plane k 0) 1

-- a pixel that waits and becomes ground waits no more
fewer-wait : (plane : List ℕ) (q : ℕ) → q < length plane → get_or plane q 0 ≡ 1 → waiting (set plane q 2) + 1 ≡ waiting plane
unfolding waiting
fewer-wait plane q l e =
    rw (length-set plane q 2)
    (count-without (waits plane) (waits (set plane q 2)) (length plane) q l
    (eq-eqb (get_or plane q 0) 1 e)
    (ne_eqb (get_or (set plane q 2) q 0) 1 (λ z. (let y = get_or-set_same plane q 2 0 l in omega arith)))
    (λ k z. ap (λ (v : ℕ). eqb v 1) (get_or-set_other plane q k 2 0 z)))

-- at most all wait
waiting-most : (plane : List ℕ) → waiting plane ≤ length plane
unfolding waiting
waiting-most plane = count_most (waits plane) (length plane)

-- an empty stack has room
pub first-room : (stack plane : List ℕ) (h w : ℕ) → Sides h w → Closed plane h w → h * w ≤ length stack → Room (state 0 stack plane)
first-room stack plane h w s g t = record {
  small = (let a = area-most s.tall s.wide in omega (arith, g.output));
  tall = omega (arith, g.output);
  fits = omega (arith, waiting-most plane);
}

-- a pixel that is taken off leaves room
pub popped-room : {s : State} → Room s → Room (popped s)
popped-room r = record { small = r.small; tall = r.tall; fits = omega (arith, r.fits) }

-- a pixel that waits has room
pub room_for : (s : State) (q : ℕ) → Room s → q < length s.plane → get_or s.plane q 0 ≡ 1 → s.top < length s.stack
room_for s q r l e = omega (arith, fewer-wait s.plane q l e, r.fits, r.tall)

pub pushed_room : (s : State) (q : ℕ) → Room s → q < length s.plane → get_or s.plane q 0 ≡ 1 → Room (pushed q s)
unfolding pushed
pushed_room s q r l e = record {
  small = rw (length-set s.plane q 2) r.small;
  tall = rw (length-set s.plane q 2, length-set s.stack s.top q) r.tall;
  fits = rw (length-set s.plane q 2) (omega (arith, fewer-wait s.plane q l e, r.fits));
}

visited-room : (s : State) (q : ℕ) → Room s → q < length s.plane → Room (visited q s)
unfolding visited
visited-room s q r l =
    ⊎_elim {C = Room (visited q s)}
    (λ (e : eqb (get_or s.plane q 0) 1 ≡ true). rw e (pushed_room s q r l (eqb-true (get_or s.plane q 0) 1 e)))
    (λ (e : eqb (get_or s.plane q 0) 1 ≡ false). rw e r)
    (cases_Bool (eqb (get_or s.plane q 0) 1))

visited-long : (s : State) (q : ℕ) → length (visited q s).plane ≡ length s.plane
unfolding visited pushed
visited-long s q =
    ⊎_elim {C = length (visited q s).plane ≡ length s.plane}
    (λ (e : eqb (get_or s.plane q 0) 1 ≡ true). rw e (length-set s.plane q 2))
    (λ (e : eqb (get_or s.plane q 0) 1 ≡ false). rw e)
    (cases_Bool (eqb (get_or s.plane q 0) 1))

-- the height of the stack and the number of those that wait
unfoldable pub total : State → ℕ
total s = s.top + waiting s.plane

-- is the same after a visit
visited-total : (s : State) (q : ℕ) → q < length s.plane → total (visited q s) ≡ total s
unfolding total visited pushed
visited-total s q l =
    ⊎_elim {C = total (visited q s) ≡ total s}
    (λ (e : eqb (get_or s.plane q 0) 1 ≡ true). rw e (omega (arith, fewer-wait s.plane q l (eqb-true (get_or s.plane q 0) 1 e))))
    (λ (e : eqb (get_or s.plane q 0) 1 ≡ false). rw e)
    (cases_Bool (eqb (get_or s.plane q 0) 1))

-- the room of a plane of `area` pixels
pub record Kept (area : ℕ) (s : State) : Type 0 where
  pub room : Room s
  pub long : area ≡ length s.plane

pub visited-kept : (area q : ℕ) (s : State) → q < area → Kept area s → Kept area (visited q s)
visited-kept area q s l k =
    let i : q < length s.plane = omega (arith, k.long) in
    record { room = visited-room s q k.room i; long = k.long ∙ sym (visited-long s q) }

pub if_kept : (o : Option ℕ) {area : ℕ} {s : State} → IfSome o (λ q. q < area) → Kept area s → Kept area (visit_if o s)
unfolding visit_if
if_kept (Some q) l k = visited-kept _ q _ l k
if_kept None l k = k

if-total : (o : Option ℕ) {area : ℕ} {s : State} → IfSome o (λ q. q < area) → Kept area s → total (visit_if o s) ≡ total s
unfolding visit_if
if-total (Some q) l k = visited-total _ q (omega (arith, k.long))
if-total None l k = refl

-- a pixel that is there where a test says so
if-there : (t : Bool) {q area : ℕ} → (t ≡ true → q < area) → IfSome (then_some t q) (λ r. r < area)
if-there true l = l refl
if-there false l = tt

-- a pixel by a difference that is there where it is not negative
pub difference-is : (v : ℕ) (o : Option ℕ) (b a : ℕ) → SomeIff o (b ≤ a) v → o ≡ then_some (leb b a) v
difference-is v (Some x) b a h = rw (le-leb b a h.0, h.1)
difference-is v None b a h = rw (lt-leb b a (⊎_elim (λ (l : a < b). l) (λ (l : b ≤ a). absurd (h l)) (cases_lt a b)))

-- and by a closure that is called where a test says so
pub called-is : (v : ℕ) (o : Option ℕ) (t : Bool) → is_some o ≡ t → IfSome o (λ x. x ≡ v) → o ≡ then_some t v
called-is v (Some x) t e h = rw (← e, h)
called-is v None t e h = rw (← e)

-- ---- after two calls the stack is still over the same buffer
pub same-twice : {a b c : MutBor (List ℕ)} → SameBuffer a b → SameBuffer b c → SameBuffer a c
same-twice f g = record { reference = g.reference ∙ f.reference; size = g.size ∙ f.size }

-- ---- the four visits of one spread

module _ {w : ℕ} {s : State} (g : Spreads w s) where
  abbrev area : ℕ
  area = length s.plane

  abbrev p : ℕ
  p = on_top s

  -- the states after them
  abbrev pub above : State
  above = visit_if (then_some (leb w p) (p - w)) (popped s)

  abbrev pub below : State
  below = visit_if (then_some (ltb (p + w) area) (p + w)) above

  abbrev pub left : State
  left = visit_if (then_some (ltb 0 (p % w)) (p - 1)) below

  -- they are to pixels of the plane
  pub above-in : IfSome (then_some (leb w p) (p - w)) (λ q. q < area)
  above-in = if-there (leb w p) (λ t. omega (arith, g.inside))

  pub below-in : IfSome (then_some (ltb (p + w) area) (p + w)) (λ q. q < area)
  below-in = if-there (ltb (p + w) area) (λ t. ltb-true (p + w) area t)

  pub left-in : IfSome (then_some (ltb 0 (p % w)) (p - 1)) (λ q. q < area)
  left-in = if-there (ltb 0 (p % w)) (λ t. omega (arith, g.inside))

  pub right-in : IfSome (then_some (ltb (p % w) (w - 1)) (p + 1)) (λ q. q < area)
  right-in = if-there (ltb (p % w) (w - 1)) (λ t. g.row (ltb-true (p % w) (w - 1) t))

  -- and keep the room
  pub kept-first : Kept area (popped s)
  kept-first = record { room = popped-room g.room; long = refl }

  pub kept-above : Kept area above
  kept-above = if_kept _ above-in kept-first

  pub kept-below : Kept area below
  kept-below = if_kept _ below-in kept-above

  pub kept-left : Kept area left
  kept-left = if_kept _ left-in kept-below

  -- so one spread takes one off the height with those that wait
  pub spread-total : total (spread_top w s) + 1 ≡ s.top + waiting s.plane
  unfolding spread_from total
  spread-total =
      omega (arith, g.some, if-total _ above-in kept-first, if-total _ below-in kept-above, if-total _ left-in kept-below, if-total _ right-in kept-left)
