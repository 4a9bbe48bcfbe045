-- What the exchange of on and off in place gives.
-- Assumes nothing.
use Rattle.std.specs.Prelude.{ℕ, not, List, length}
use Rattle.plane.specs.Mask.{is_on, mask_of}

-- the mask with on and off exchanged
unfoldable pub complement_of : List ℕ → List ℕ
complement_of mask = mask_of (length mask) (λ (i : ℕ). not (is_on mask i))
