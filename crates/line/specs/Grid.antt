-- First-least walks over several axes: the places of a grid in order, columns outermost.
-- Assumes nothing.
use Rattle.std.specs.Prelude.{ℕ, zero, suc, ◌+◌, cond, List, [], ◌∷◌, ◌++◌, map}
use Rattle.std.proofs.Math.Option.{Option, none, some}
use Rattle.line.specs.Walk.{lower}

-- what stands at an answer (R10)
unfoldable pub value_of : {P : Type 0} → (P → Option ℕ) → Option P → Option ℕ
value_of f none = none
value_of f (some p) = f p

-- walk the places in order, from the best so far: a place takes the lead only where its number is strictly less (R11)
unfoldable pub walk : {P : Type 0} → (P → Option ℕ) → Option P → List P → Option P
walk f b [] = b
walk f b (p ∷ ps) = walk f (cond (lower (f p) (value_of f b)) (some p) b) ps

-- the places 0 to n - 1 (R11)
unfoldable pub upto : ℕ → List ℕ
upto zero = []
upto (suc n) = upto n ++ (n ∷ [])

-- n columns with the places ps each: all of column 0 first, then all of column 1 and so on (R11)
unfoldable pub grid : {P : Type 0} → ℕ → List P → List (ℕ × P)
grid zero ps = []
grid {P} (suc n) ps = grid n ps ++ map {B = ℕ × P} (λ (p : P). (n, p)) ps

-- a number and k (R10)
unfoldable pub plus : ℕ → Option ℕ → Option ℕ
plus k none = none
plus k (some a) = some (a + k)
