-- Row y of a plane inside the box (y0, y1, x0, x1), ends excluded: the part of the plane from column x0 up to x1 of that row.
-- Assumes nothing.
use Rattle.std.specs.Prelude.{ℕ, ◌+◌, ◌-◌, ◌*◌, List, [], length, take, drop}
use Rattle.plane.specs.Refusal.{after}
use Rattle.geometry.specs.Refusal.{crop_refusal}

-- the row's part; declined, an empty one (R37)
unfoldable pub crop_part : List ℕ → ℕ → ℕ → ℕ → ℕ → ℕ → ℕ → ℕ → List ℕ
crop_part plane h w y0 y1 x0 x1 y =
    after (crop_refusal (length plane) h w y0 y1 x0 x1 y) (take (x1 - x0) (drop (y * w + x0) plane)) []
