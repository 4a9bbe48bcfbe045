-- Fill: each pixel takes the colour bits of its nearest on-pixel. Channel c of pixel i stands at 3 * i + c.
-- Assumes nothing.
use Rattle.std.specs.Prelude.{ℕ, ◌+◌, ◌*◌, ◌-◌, ◌/◌, ◌%◌, List, get_or}
use Rattle.std.proofs.Math.Option.{Option, none, some}
use Rattle.plane.specs.Plane.{plane_of}
use Rattle.nearest.specs.Nearest.{nearest}

-- the index of the pixel that an answer of nearest stands for; nothing on: row -1 reads row h - 1, column 0 (R14)
unfoldable pub source_of : ℕ → ℕ → Option (ℕ × ℕ) → ℕ
source_of h w none = (h - 1) * w
source_of h w (some q) = q.1 * w + q.0

-- the filled colours: h * w pixels of three channels (R14)
unfoldable pub filled_colours : List ℕ → List ℕ → ℕ → ℕ → List ℕ
filled_colours colours mask h w = plane_of (h * w) 3 (λ (i c : ℕ). get_or colours (3 * source_of h w (nearest mask h w (i / w) (i % w)) + c) 0)
