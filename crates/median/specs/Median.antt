-- The median of a list of numbers, by order.
-- Assumes nothing.
use Rattle.std.specs.Prelude.{cond, List, [], ◌∷◌, ℕ, ◌-◌, ◌/◌, length, get_or, Float}
use Rattle.std.specs.Float.{nan}
use Rattle.std.specs.Float.Ieee.{lt}
use Rattle.colour.specs.Number.{plus_zero, half_of}

-- x among numbers in order: before the first that is greater (R17)
unfoldable pub insert : Float → List Float → List Float
insert x [] = x ∷ []
insert x (y ∷ l) = cond (lt x y) (x ∷ y ∷ l) (y ∷ insert x l)

-- the numbers in order, the least first (R17)
unfoldable pub sorted : List Float → List Float
sorted [] = []
sorted (x ∷ l) = insert x (sorted l)

-- the number at place k of the order; the first place is 0 (R17)
unfoldable pub placed : List Float → ℕ → Float
placed l k = get_or (sorted l) k nan

-- the two middle values of a list of even length (R17)
unfoldable pub lower_middle : List Float → Float
lower_middle l = placed l (length l / 2 - 1)

unfoldable pub upper_middle : List Float → Float
upper_middle l = placed l (length l / 2)

-- the reference of a channel (R17): half the sum of the two middle values in order, a zero as +0
unfoldable pub median_of : List Float → Float
median_of l = plus_zero (half_of (lower_middle l) (upper_middle l))
