-- The colour of a pixel.
-- Assumes nothing.
use Rattle.std.specs.Prelude.{ℕ, ◌+◌, ◌*◌, List, Float, get_or}
use Rattle.colour.specs.declared.Rgb.{Rgb}
use Rattle.std.specs.Float.Ieee.{nan}

-- the three channels of pixel i, which stand side by side
abbrev pub pixel_of : List Float → ℕ → Rgb
pixel_of colours i =
    record { r = get_or colours (3 * i) nan; g = get_or colours (3 * i + 1) nan; b = get_or colours (3 * i + 2) nan }
