-- First-least walks: of the numbers that stand at the places 0 to n - 1, the place of the least, and of equals the first.
-- Assumes nothing.
use Rattle.std.specs.Prelude.{ℕ, zero, suc, ◌≤◌, ◌<◌, ◌≡◌, cond}
use Rattle.std.proofs.Math.Option.{Option, none, some}
use Rattle.line.specs.Walk.{lower}
use Rattle.line.specs.Grid.{value_of}

-- the walk: places 0, 1 and so on in order; a place takes the lead only where its number is strictly less
unfoldable pub first_least : (ℕ → Option ℕ) → ℕ → Option ℕ
first_least f zero = none
first_least f (suc n) = let b = first_least f n in cond (lower (f n) (value_of f b)) (some n) b

-- i is the first of the first n places that hold the least number, v
pub record First (f : ℕ → Option ℕ) (n i v : ℕ) : Type 0 where
  pub inside : i < n
  pub here : f i ≡ some v
  pub least : (j w : ℕ) → j < n → f j ≡ some w → v ≤ w
  pub first : (j w : ℕ) → j < i → f j ≡ some w → v < w

-- what an answer says: a place is the first least one; none, that no place holds a number
abbrev pub Answers : (ℕ → Option ℕ) → ℕ → Option ℕ → Type 0
Answers f n none = (j : ℕ) → j < n → f j ≡ none
Answers f n (some i) = (v : ℕ) × First f n i v
