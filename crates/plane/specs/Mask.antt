-- Masks: bytes of which 0 is off and any other on, by index.
-- Assumes nothing.
use Rattle.std.specs.Prelude.{ℕ, Bool, not, List, get_or}
use Rattle.plane.specs.Plane.{on, bit, table}
use Rattle.plane.specs.Search.{some_below}

-- whether pixel i is on; none is past the end of the mask (R3)
unfoldable pub is_on : List ℕ → ℕ → Bool
is_on mask i = on (get_or mask i 0)

-- the pixels of which p holds, as a mask of n pixels (R3): 1 for on, 0 for off
unfoldable pub mask_of : ℕ → (ℕ → Bool) → List ℕ
mask_of n p = table (λ (i : ℕ). bit (p i)) 0 n

-- whether one of the first n pixels is off (R32, R36)
unfoldable pub some_off : List ℕ → ℕ → Bool
some_off mask n = some_below n (λ (i : ℕ). not (is_on mask i))
