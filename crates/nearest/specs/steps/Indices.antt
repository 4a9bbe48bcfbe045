-- The answers as indices: an on-pixel at column i and row j stands at j * w + i.
-- Assumes nothing.
use Rattle.std.specs.Prelude.{ℕ, List}
use Rattle.plane.specs.Plane.{plane_of, index_of}
use Rattle.nearest.specs.Nearest.{nearest}

-- the plane of indices
unfoldable pub indices_plane : List ℕ → ℕ → ℕ → List ℕ
indices_plane mask h w = plane_of h w (λ (y x : ℕ). index_of w (nearest mask h w y x))
