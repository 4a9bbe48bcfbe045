-- The two stages of the computation, which the contracts of its parts cite:
-- along the columns, in two sweeps over the rows; then along each row, by the line pass.
-- Assumes nothing.
use Rattle.std.specs.Prelude.{ℕ, zero, suc, ◌+◌, ◌*◌, ◌-◌, ◌≤◌, ◌<◌, ◌≡◌, Bool, cond, ◌||◌, List, length, take, drop, eqb, ltb, get_or}
use Rattle.std.proofs.Math.Option.{Option, none, some}
use Rattle.plane.specs.Plane.{on_at, apart}
use Rattle.line.specs.steps.FirstLeast.{first_least}
use Rattle.line.specs.steps.Line.{most_length}
use Rattle.nearest.specs.Nearest.{row_cost, nearest, distance}

-- stands for the row of a column that has no on-pixel
abbrev pub no_row : ℕ
no_row = 1073741824

-- the cost of a column that has no on-pixel
abbrev pub no_cost : ℕ
no_cost = 4294967295

-- ---- first stage, first sweep: from the last row up

-- the first of the n numbers from k on of which p holds
unfoldable pub first_from : (ℕ → Bool) → ℕ → ℕ → ℕ
first_from p k zero = no_row
first_from p k (suc n) = cond (p k) k (first_from p (suc k) n)

-- the first on-row of column x at or below row y
unfoldable pub below_at : List ℕ → ℕ → ℕ → ℕ → ℕ → ℕ
below_at mask h w y x = first_from (λ (j : ℕ). on_at mask w j x) y (h - y)

-- the rows from y on hold the first on-rows at or below, and the row behind the last none
abbrev pub BelowFrom : List ℕ → ℕ → ℕ → ℕ → List ℕ → Type 0
BelowFrom mask h w y work = (j x : ℕ) → y ≤ j → j ≤ h → x < w → get_or work (j * w + x) 0 ≡ below_at mask h w j x

-- ---- first stage, second sweep: from the first row down

-- of a, the first on-row at or below y, and b, the nearest of the row above: the nearer to y; b where they are equally near
unfoldable pub nearer : ℕ → ℕ → ℕ → ℕ
nearer y a b = cond (eqb y 0 || ltb (a + b) (2 * y)) a b

-- the row of an answer down a column
unfoldable pub row_code : Option ℕ → ℕ
row_code none = no_row
row_code (some j) = j

-- the on-row of column x nearest to y, the upper of two
unfoldable pub near_at : List ℕ → ℕ → ℕ → ℕ → ℕ → ℕ
near_at mask h w y x = row_code (first_least (row_cost mask w y x) h)

-- the same for the row above y
unfoldable pub above_at : List ℕ → ℕ → ℕ → ℕ → ℕ → ℕ
above_at mask h w zero x = no_row
above_at mask h w (suc z) x = near_at mask h w z x

-- before row y: the rows of the plane from y on hold the first on-rows at or below, and near has the nearest on-rows of the row above
pub record Swept (mask : List ℕ) (h w y : ℕ) (plane near : List ℕ) : Type 0 where
  pub above : (x : ℕ) → x < w → get_or near x 0 ≡ above_at mask h w y x
  pub below : (j x : ℕ) → y ≤ j → j < h → x < w → get_or plane (j * w + x) 0 ≡ below_at mask h w j x

-- ---- second stage: along row y

-- a column costs the square of the distance to its nearest on-row
unfoldable pub square_cost : ℕ → ℕ → ℕ
square_cost y r = cond (ltb r most_length) (apart y r * apart y r) no_cost

-- ---- the answers of row y

-- the column and the row of column i's on-pixel, of the nearest on-rows; nothing where there is no such column
unfoldable pub pixel_in : List ℕ → ℕ → Option (ℕ × ℕ)
pixel_in near i = cond (ltb i (length near)) (some (i, get_or near i 0)) none

-- column i, where there is such a column, has an on-row
abbrev pub IsRow : List ℕ → ℕ → Type 0
IsRow near i = i < length near → get_or near i 0 < most_length

-- the squared distance of column i's on-pixel from (y, x), from the column's cost
unfoldable pub distance_in : List ℕ → ℕ → ℕ → ℕ → ℕ
distance_in costs y x i = cond (ltb i (length costs)) (get_or costs i 0 + apart x i * apart x i) (suc y * suc y + x * x)

-- row y is passed: the plane holds its chosen columns from `at` on, and what it held before that; of the lines the first holds the nearest
-- on-rows of row y, and the second what they cost
pub record Passed (mask : List ℕ) (h w y at : ℕ) (old plane lines : List ℕ) : Type 0 where
  pub next : Swept mask h w (y + 1) plane lines
  pub before : (i : ℕ) → i < at → get_or plane i 0 ≡ get_or old i 0
  pub chosen : (x : ℕ) → x < w → IsRow (take w lines) (get_or plane (at + x) 0)
  pub pixels : (x : ℕ) → x < w → pixel_in (take w lines) (get_or plane (at + x) 0) ≡ nearest mask h w y x
  pub distances : (x : ℕ) → x < w → distance_in (take w (drop w lines)) y x (get_or plane (at + x) 0) ≡ distance mask h w y x
