-- Squares: the dilation of a mask by a square. A pixel is on exactly when an on-pixel of the mask is within k of it.
-- Assumes nothing.
use Rattle.std.specs.Prelude.{ℕ, Bool, cond, ◌&&◌, List, eqb, leb}
use Rattle.plane.specs.Search.{some_below}
use Rattle.plane.specs.Plane.{bit, on_at, within, plane_of}

-- the larger side (R9)
unfoldable pub larger : ℕ → ℕ → ℕ
larger h w = cond (leb h w) w h

-- k (R9): 0 iterations mean the larger side
unfoldable pub reach : ℕ → ℕ → ℕ → ℕ
reach h w iterations = cond (eqb iterations 0) (larger h w) iterations

-- whether some on-pixel (j, i) of the mask is within k of (y, x) (R8)
unfoldable pub in_square : List ℕ → ℕ → ℕ → ℕ → ℕ → ℕ → Bool
in_square mask h w k y x = some_below h (λ (j : ℕ). some_below w (λ (i : ℕ). on_at mask w j i && within k y x j i))

-- the mask after the dilation: 1 for on, 0 for off (R8)
unfoldable pub squares_plane : List ℕ → ℕ → ℕ → ℕ → List ℕ
squares_plane mask h w iterations = plane_of h w (λ (y x : ℕ). bit (in_square mask h w (reach h w iterations) y x))
