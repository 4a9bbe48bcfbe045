-- A walk over a grid in two stages: down each column first, then along the columns' answers.
-- Assumes nothing.
use Rattle.std.specs.Prelude.{ℕ, ◌≤◌, ◌<◌, ◌≡◌, List, length, get_or}
use Rattle.std.proofs.Math.Option.{Option, none, some}
use Rattle.line.specs.steps.Line.{most_cost}

-- a column's answer as a place of the grid
unfoldable pub attach : {P : Type 0} → ℕ → Option P → Option (ℕ × P)
attach i none = none
attach i (some p) = some (i, p)

-- the best column's answer
unfoldable pub chosen : {P : Type 0} → (ℕ → Option P) → Option ℕ → Option (ℕ × P)
chosen g none = none
chosen g (some i) = attach i (g i)

-- the numbers of a line's costs are those of f: none is a number above the largest cost
pub record Encodes (costs : List ℕ) (f : ℕ → Option ℕ) : Type 0 where
  pub some_cost : (i a : ℕ) → i < length costs → f i ≡ some a → (get_or costs i 0 ≡ a) × (a ≤ most_cost)
  pub no_cost : (i : ℕ) → i < length costs → f i ≡ none → most_cost < get_or costs i 0
