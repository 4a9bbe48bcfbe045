-- The k that is used.
-- Assumes nothing.
use Rattle.std.specs.Prelude.{ℕ, cond, leb}
use Rattle.squares.specs.Squares.{larger, reach}

-- the k that is used: one above the larger side acts as that side
unfoldable pub radius_of : ℕ → ℕ → ℕ → ℕ
radius_of h w iterations = cond (leb (reach h w iterations) (larger h w)) (reach h w iterations) (larger h w)
