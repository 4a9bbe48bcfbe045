-- The weight of one pixel, which the contracts of the loops cite.
-- Assumes nothing.
use Rattle.std.specs.Prelude.{ℕ, cond, eqb, Float}
use Rattle.plane.specs.Plane.{on}
use Rattle.colour.specs.Number.{zero64}
use Rattle.colour.specs.Weight.{weight_of}

-- the weight of an on-pixel with this alpha
unfoldable pub on_weight : ℕ → Float
on_weight alpha = weight_of (cond (eqb alpha 0) 1 alpha)

-- the weight of a pixel with this byte in the mask and this alpha
unfoldable pub weight_for : ℕ → ℕ → Float
weight_for m alpha = cond (on m) (on_weight alpha) zero64
