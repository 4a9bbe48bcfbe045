-- How fill reads the plane of indices.
-- Assumes nothing.
use Rattle.std.specs.Prelude.{◌≡◌, Option, Some, None, List, ℕ, ◌+◌, ◌*◌, ◌-◌, ◌<◌, length, get_or}
use Rattle.std.specs.Borrow.{Bor}
use Rattle.std.specs.Option.{ForSome}
use Rattle.plane.specs.Plane.{plane_of}
use Rattle.plane.specs.declared.size.Size.{Size}

-- the pixel that pixel i takes its colour from: the one whose index stands there, or the last row's first pixel without a plane of
-- indices
abbrev pub source_at : Option (Bor (List ℕ)) → ℕ → ℕ → ℕ
source_at (Some plane) last i = get_or plane.now i 0
source_at None last i = last

-- channel c of pixel i is that of this pixel
unfoldable pub colours_from : List ℕ → Size → Option (Bor (List ℕ)) → List ℕ
colours_from colours size indices =
    plane_of (size.h * size.w) 3 (λ (i c : ℕ). get_or colours (3 * source_at indices ((size.h - 1) * size.w) i + c) 0)

-- indices of pixels of the picture, and colours for it
pub record Reads (colours : List ℕ) (size : Size) (indices : Option (Bor (List ℕ))) (out : List ℕ) : Type 0 where
  pub colours_long : length colours ≡ 3 * (size.h * size.w)
  pub out_long : length out ≡ 3 * (size.h * size.w)
  pub inside : (i : ℕ) → i < size.h * size.w
      → ForSome indices (λ (plane : Bor (List ℕ)). (i < length plane.now) × (get_or plane.now i 0 < size.h * size.w))
