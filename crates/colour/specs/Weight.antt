-- The weight of a byte.
-- Assumes nothing.
use Rattle.std.specs.Prelude.{ℕ, pos, Float}
use Rattle.std.specs.Float.{binary64}
use Rattle.std.specs.Float.Ieee.{div, of_int}

-- v / 255, rounded once (R34)
unfoldable pub weight_of : ℕ → Float
weight_of v = div binary64 (of_int binary64 (pos v)) (of_int binary64 (pos 255))
