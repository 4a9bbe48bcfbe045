-- Worked cases of the definitions, proved together: one list, one check.
-- Assumes nothing.
use mathlib.Core.Bool.{Bool, true, false, not, ◌&&◌}
use mathlib.Core.List.{List, [], ◌∷◌}
use Prim.Native.Nat.{ℕ}
use lib.Dec.{T, eqb}
use lib.IntN.{ℤ, pos, negsuc}
use lib.Ieee.{Float, nan, inf, fin, binary64, of_bits, to_bits, lt, le, eq, add, mul, sub, div, neg, of_int}
use Rattle.colour.specs.declared.Rgb.{Rgb}
use Rattle.colour.specs.declared.Settings.{Settings}
use Rattle.colour.specs.Number.{zero64, one64, abs_of, larger, plus_zero, half_of}
use Rattle.colour.specs.Colour.{difference_of, close_to, colour_ok, colours_ok, same_colour}
use Rattle.colour.specs.Join.{joins_of, millionth}
use Rattle.colour.specs.Weight.{weight_of}
use Rattle.colour.specs.Settings.{passes_of, on_of}

rgb : Float → Float → Float → Rgb
rgb r g b = record { r = r; g = g; b = b }

grey : Float → Rgb
grey v = rgb v v v

settings : ℤ → Settings
settings p =
    record { alpha_threshold = pos 128; key_bg = true; key_bg_fringe = p; key_bg_tolerance = zero64; crop_to_alpha = true }

abbrev minus-zero : Float
minus-zero = fin true 0 (pos 0)

abbrev quarter : Float
quarter = fin false 1 (negsuc 1)

abbrev half : Float
half = fin false 1 (negsuc 0)

abbrev three_quarters : Float
three_quarters = fin false 3 (negsuc 1)

-- a pixel with body colour 0 and reference 1
joined : Float → Bool
joined v = joins_of (difference_of (grey zero64) (grey one64)) (difference_of (grey v) (grey one64))

bits : Float → ℕ → Bool
bits x n = eqb (to_bits binary64 x) n

all : List Bool → Bool
all [] = true
all (b ∷ bs) = b && all bs

cases : List Bool
cases =
    -- R79: 0.75 joins, 0.5 does not
    joined three_quarters
    ∷ not (joined half)
    -- full has to be above 1e-6
    ∷ not (joins_of millionth zero64)
    -- the largest channel counts
    ∷ eq (difference_of (rgb zero64 quarter one64) (rgb zero64 one64 half)) three_quarters
    -- at most: a difference equal to the tolerance is close; a negative tolerance accepts nothing
    ∷ close_to quarter (grey one64) (grey three_quarters)
    ∷ not (close_to quarter (grey one64) (rgb half one64 one64))
    ∷ close_to minus-zero (grey zero64) (grey minus-zero)
    ∷ not (close_to (fin true 1 (negsuc 1)) (grey one64) (grey one64))
    -- from 0 to 1, -0 too
    ∷ colours_ok (zero64 ∷ minus-zero ∷ half ∷ one64 ∷ [])
    ∷ not (colour_ok (of_bits binary64 0x3ff0_0000_0000_0001))
    ∷ not (colour_ok (of_bits binary64 0x8000_0000_0000_0001))
    ∷ not (colour_ok nan)
    ∷ not (colour_ok (inf false))
    ∷ same_colour (grey minus-zero) (grey zero64)
    ∷ bits (plus_zero minus-zero) 0
    ∷ bits (plus_zero half) 0x3fe0_0000_0000_0000
    -- (0.5 + 1) / 2
    ∷ bits (half_of half one64) 0x3fe8_0000_0000_0000
    ∷ bits (weight_of 0) 0
    ∷ bits (weight_of 255) 0x3ff0_0000_0000_0000
    ∷ bits (weight_of 51) 0x3fc9_9999_9999_999a
    ∷ eqb (passes_of (settings (negsuc 4))) 0
    ∷ eqb (passes_of (settings (pos 3))) 3
    ∷ on_of 128 (pos 128)
    ∷ not (on_of 127 (pos 128))
    ∷ on_of 0 (negsuc 0)
    ∷ []

cases-hold : T (all cases)
unfolding cases all bits joined grey rgb settings joins_of close_to difference_of larger abs_of plus_zero half_of colour_ok colours_ok
    same_colour weight_of passes_of on_of lt le eq neg add sub mul div of_int of_bits to_bits
cases-hold = tt
