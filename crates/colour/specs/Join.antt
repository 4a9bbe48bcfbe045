-- When an edge pixel joins the background.
-- Assumes nothing.
use Rattle.std.specs.Prelude.{Bool, ◌&&◌, Float}
use Rattle.std.specs.Float.{binary64}
use Rattle.std.specs.Float.Ieee.{of_bits, mul, lt}
use Rattle.colour.specs.Number.{two64}

-- the number nearest to 1e-6 (R27)
abbrev pub millionth : Float
millionth = of_bits binary64 0x3eb0_c6f7_a0b5_ed8d

-- joins (R27): full, the difference of body colour and reference, is above 1e-6, and twice mixed, the difference of the
-- pixel itself, is less than full
unfoldable pub joins_of : Float → Float → Bool
joins_of full mixed = lt millionth full && lt (mul binary64 two64 mixed) full
