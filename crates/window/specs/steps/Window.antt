-- The search of a window for the nearest deep pixel, which the contracts of its parts cite: column by column, in each up and down
-- from the pixel's own row.
-- Assumes nothing.
use Rattle.std.specs.Prelude.{ℕ, ◌+◌, ◌*◌, ◌≤◌, ◌<◌, ◌≡◌, true, ◌⊎◌, List, Option, Some, None}
use Rattle.std.specs.Bool.{then_some}
use Rattle.plane.specs.Plane.{on_at, apart, index_of}
use Rattle.plane.specs.Search.{some_below}
use Rattle.plane.specs.Mask.{is_on}
use Rattle.nearest.specs.Nearest.{nearest, away}
use Rattle.nearest.specs.steps.Indices.{indices_plane}
use Rattle.outline.specs.Growth.{body_reach, is_reach}

-- the index of the deep pixel nearest to (y, x), where it is near enough
unfoldable pub near_pixel : List ℕ → ℕ → ℕ → ℕ → ℕ → Option ℕ
near_pixel deep h w y x = then_some (is_reach y x (nearest deep h w y x)) (index_of w (nearest deep h w y x))

-- each on-pixel of column i is at least far away, by the square `across` of the column's distance and the square of the row's
pub record Cleared (deep : List ℕ) (h w y i across far : ℕ) : Type 0 where
  pub least : (k : ℕ) → k < h → on_at deep w k i ≡ true → far ≤ across + apart y k * apart y k

-- row j has the on-pixel of column i that is nearest to row y, the upper one of two; it is less than far away
pub record RowFound (deep : List ℕ) (h w y i across far j : ℕ) : Type 0 where
  pub inside : j < h
  pub pixel_on : on_at deep w j i ≡ true
  pub near : across + apart y j * apart y j < far
  pub least : (k : ℕ) → k < h → on_at deep w k i ≡ true → apart y j ≤ apart y k
  pub first : (k : ℕ) → k < j → on_at deep w k i ≡ true → apart y j < apart y k

-- pixel `at` is an on-pixel at the squared distance far; each in a column before it is farther, and each above it in its own column
pub record Chosen (deep : List ℕ) (h w y x far : ℕ) (at : Option ℕ) : Type 0 where
  pub i : ℕ
  pub j : ℕ
  pub row_inside : j < h
  pub column_inside : i < w
  pub pixel_on : on_at deep w j i ≡ true
  pub place : at ≡ Some (j * w + i)
  pub distance : far ≡ away y x j i
  pub reached : far ≤ body_reach
  pub first_column : (k l : ℕ) → k < h → l < i → on_at deep w k l ≡ true → far < away y x k l
  pub first_row : (k : ℕ) → k < j → on_at deep w k i ≡ true → far < away y x k i

-- the columns before column c are searched: far is the least squared distance found, at the pixel `at`, or one more than is near enough
pub record Searched (deep : List ℕ) (h w y x c far : ℕ) (at : Option ℕ) : Type 0 where
  pub low : far ≤ body_reach + 1
  pub least : (k l : ℕ) → k < h → l < c → on_at deep w k l ≡ true → far ≤ away y x k l
  pub found : ((far ≡ body_reach + 1) × (at ≡ None)) ⊎ Chosen deep h w y x far at

-- the plane of the nearest deep pixels, and there is a deep pixel
pub record Made (deep nearest : List ℕ) (h w : ℕ) : Type 0 where
  pub some_deep : some_below (h * w) (is_on deep) ≡ true
  pub indices : nearest ≡ indices_plane deep h w
