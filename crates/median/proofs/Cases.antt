-- Worked cases of the definitions, proved together: one list, one check.
-- Assumes nothing.
use mathlib.Core.Bool.{Bool, true, false, ◌&&◌}
use mathlib.Core.List.{List, [], ◌∷◌}
use Prim.Native.Nat.{ℕ}
use lib.Dec.{T, eqb}
use lib.IntN.{pos, negsuc}
use lib.Ieee.{Float, fin, binary64, of_bits, to_bits, lt, le, eq, add, div, of_int}
use Rattle.colour.specs.Number.{plus_zero, half_of}
use Rattle.median.specs.Median.{insert, sorted, placed, lower_middle, upper_middle, median_of}
use Rattle.median.specs.steps.Select.{at_most, nearer, least_above}

all : List Bool → Bool
all [] = true
all (b ∷ bs) = b && all bs

bits : Float → ℕ → Bool
bits x n = eqb (to_bits binary64 x) n

abbrev zero+ : Float
zero+ = fin false 0 (pos 0)

abbrev zero- : Float
zero- = fin true 0 (pos 0)

-- n, and n / 8
abbrev whole : ℕ → Float
whole n = of_int binary64 (pos n)

abbrev eighths : ℕ → Float
eighths n = div binary64 (whole n) (whole 8)

cases : List Bool
cases =
    -- numpy.median: of an even count the average of the two middle values, as of 1 2 3 4 it is 2.5
    bits (median_of (eighths 4 ∷ eighths 1 ∷ eighths 3 ∷ eighths 2 ∷ [])) 0x3fd4_0000_0000_0000
    -- numpy's example 10 7 4 3 2 1: 3.5
    ∷ eq (median_of (whole 10 ∷ whole 7 ∷ whole 4 ∷ whole 3 ∷ whole 2 ∷ whole 1 ∷ [])) (fin false 7 (negsuc 0))
    -- two values
    ∷ eq (median_of (eighths 8 ∷ eighths 0 ∷ [])) (eighths 4)
    ∷ eq (lower_middle (eighths 8 ∷ eighths 0 ∷ [])) zero+
    ∷ eq (upper_middle (eighths 8 ∷ eighths 0 ∷ [])) (eighths 8)
    -- repeats count
    ∷ eq (median_of (eighths 3 ∷ eighths 8 ∷ eighths 3 ∷ eighths 3 ∷ [])) (eighths 3)
    -- a zero as +0
    ∷ bits (median_of (zero- ∷ zero- ∷ [])) 0
    ∷ bits (median_of (zero- ∷ zero- ∷ zero+ ∷ eighths 1 ∷ [])) 0
    -- values one unit in the last place apart: the sum is rounded once, to the even one
    ∷ bits (median_of (of_bits binary64 0x3fe0_0000_0000_0001 ∷ of_bits binary64 0x3fe0_0000_0000_0002 ∷ [])) 0x3fe0_0000_0000_0002
    ∷ eqb (at_most (eighths 3) (eighths 3 ∷ eighths 8 ∷ zero- ∷ eighths 3 ∷ [])) 3
    ∷ eqb (at_most zero+ (eighths 3 ∷ eighths 8 ∷ zero- ∷ eighths 3 ∷ [])) 1
    ∷ eq (least_above (eighths 3) (eighths 7 ∷ eighths 3 ∷ eighths 5 ∷ zero- ∷ [])) (eighths 5)
    ∷ eq (least_above (eighths 7) (eighths 7 ∷ eighths 3 ∷ [])) (eighths 8)
    ∷ []

cases-hold : T (all cases)
unfolding cases all bits insert sorted placed lower_middle upper_middle median_of at_most nearer least_above
    plus_zero half_of lt le eq add div of_int of_bits to_bits
cases-hold = tt
