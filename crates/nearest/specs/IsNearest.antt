-- What makes an on-pixel the nearest one: no other is nearer, and of those that are as near it is in the least column, and there in the
-- least row. The laws say that the answer of nearest is this pixel, and that there is no second one.
-- Assumes nothing.
use Rattle.std.specs.Prelude.{◌≡◌, true, List, ℕ, ◌≤◌, ◌<◌}
use Rattle.plane.specs.Plane.{on_at}
use Rattle.nearest.specs.Nearest.{away}

-- (j, i) is the nearest on-pixel of (y, x) (R10, R11)
pub record IsNearest (mask : List ℕ) (h w y x i j : ℕ) : Type 0 where
  pub row_inside : j < h
  pub column_inside : i < w
  pub pixel_on : on_at mask w j i ≡ true
  -- no on-pixel is nearer
  pub least : (k l : ℕ) → k < h → l < w → on_at mask w k l ≡ true → away y x j i ≤ away y x k l
  -- each in a column before is farther
  pub first_column : (k l : ℕ) → k < h → l < i → on_at mask w k l ≡ true → away y x j i < away y x k l
  -- and each above it in its own column
  pub first_row : (k : ℕ) → k < j → on_at mask w k i ≡ true → away y x j i < away y x k i
