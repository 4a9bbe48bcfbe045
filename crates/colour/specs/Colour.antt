-- Colours: three numbers, each from 0 to 1; how far two colours are apart, and when one is close to another.
-- Assumes nothing.
use Rattle.std.specs.Prelude.{Bool, true, ◌&&◌, List, [], ◌∷◌, Float}
use Rattle.std.specs.Float.{binary64}
use Rattle.std.specs.Float.Ieee.{sub, eq, le}
use Rattle.colour.specs.declared.Rgb.{Rgb}
use Rattle.colour.specs.Number.{zero64, one64, abs_of, larger}

-- the difference of two colours (R18): the largest of the three absolute channel differences, each operation rounded once
unfoldable pub difference_of : Rgb → Rgb → Float
difference_of a b =
    larger (larger (abs_of (sub binary64 a.r b.r)) (abs_of (sub binary64 a.g b.g))) (abs_of (sub binary64 a.b b.b))

-- close (R19): the difference from the reference is at most the tolerance
unfoldable pub close_to : Float → Rgb → Rgb → Bool
close_to tolerance reference p = le (difference_of p reference) tolerance

-- a number from 0 to 1 (R47): -0 is one, a NaN is none
unfoldable pub colour_ok : Float → Bool
colour_ok x = le zero64 x && le x one64

-- every number of a list is from 0 to 1 (R47)
unfoldable pub colours_ok : List Float → Bool
colours_ok [] = true
colours_ok (x ∷ xs) = colour_ok x && colours_ok xs

-- the three channels of a colour are from 0 to 1 (R47)
unfoldable pub rgb_ok : Rgb → Bool
rgb_ok p = colour_ok p.r && colour_ok p.g && colour_ok p.b

-- the three channels of two colours are equal numbers (R65): -0 equals 0
unfoldable pub same_colour : Rgb → Rgb → Bool
same_colour p q = eq p.r q.r && eq p.g q.g && eq p.b q.b
