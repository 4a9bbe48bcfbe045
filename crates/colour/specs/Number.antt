-- Operations on one number or two, in binary64, each rounded once.
-- Assumes nothing.
use Rattle.std.specs.Prelude.{ℕ, ◌<◌, false, cond, List, T, pos, length, get_or, Float}
use Rattle.std.specs.Float.{nan, fin, binary64}
use Rattle.std.specs.Float.Ieee.{fits, neg, add, div, lt, eq}

-- the numbers +0, 1 and 2 (R5)
abbrev pub zero64 : Float
zero64 = fin false 0 (pos 0)

abbrev pub one64 : Float
one64 = fin false 1 (pos 0)

abbrev pub two64 : Float
two64 = fin false 1 (pos 1)

-- the absolute value: a number below 0 is negated (R18)
unfoldable pub abs_of : Float → Float
abs_of x = cond (lt x zero64) (neg x) x

-- the larger of two numbers (R18)
unfoldable pub larger : Float → Float → Float
larger x y = cond (lt x y) y x

-- a zero as +0, and any other number as it is (R17)
unfoldable pub plus_zero : Float → Float
plus_zero x = cond (eq x zero64) zero64 x

-- half of the sum of two numbers (R17)
unfoldable pub half_of : Float → Float → Float
half_of lo hi = div binary64 (add binary64 lo hi) two64

-- every number of a list is a binary64 number, as every f64 in memory is (R2)
abbrev pub Binary64 : List Float → Type 0
Binary64 l = (i : ℕ) → i < length l → T (fits binary64 (get_or l i nan))
