-- What the steps of the selection answer.
-- Assumes nothing.
use Rattle.std.specs.Prelude.{◌≡◌, true, cond, ◌&&◌, List, [], ◌∷◌, ℕ, ◌+◌, ◌≤◌, length, Float}
use Rattle.std.specs.Float.Ieee.{lt, le}
use Rattle.colour.specs.Number.{one64}
use Rattle.colour.specs.Colour.{colours_ok}

-- how many numbers are at or below t
unfoldable pub at_most : Float → List Float → ℕ
at_most t [] = 0
at_most t (x ∷ l) = cond (le x t) 1 0 + at_most t l

-- x where it lies above t and below r, else r
unfoldable pub nearer : Float → Float → Float → Float
nearer t x r = cond (lt t x && lt x r) x r

-- the least number above t; 1 where no number lies between
unfoldable pub least_above : Float → List Float → Float
least_above t [] = one64
least_above t (x ∷ l) = nearer t x (least_above t l)

-- at least two numbers, each from 0 to 1
pub record Channel (l : List Float) : Type 0 where
  pub some : 2 ≤ length l
  pub ok : colours_ok l ≡ true
