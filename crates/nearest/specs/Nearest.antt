-- The nearest on-pixel of a pixel, by one walk over the plane: column by column, each column from the top.
-- Of equally near on-pixels the first of the walk stays: the least column, and in it the least row.
-- Assumes nothing.
use Rattle.std.specs.Prelude.{ℕ, suc, ◌+◌, ◌*◌, cond, List, ℤ, pos, negsuc}
use Rattle.std.proofs.Math.Option.{Option, none, some}
use Rattle.plane.specs.Plane.{on_at, apart, plane_of}
use Rattle.line.specs.Grid.{walk, upto, grid, plus}

-- dy² of the pixel at column i and row j, seen from row y; nothing where that pixel is off (R10)
unfoldable pub row_cost : List ℕ → ℕ → ℕ → ℕ → ℕ → Option ℕ
row_cost mask w y i j = cond (on_at mask w j i) (some (apart y j * apart y j)) none

-- the column and the row of the on-pixel with the least dy² + dx² from (y, x) (R10, R11); a later one of the walk takes its place only
-- where it is strictly nearer
unfoldable pub nearest : List ℕ → ℕ → ℕ → ℕ → ℕ → Option (ℕ × ℕ)
nearest mask h w y x = walk (λ (q : ℕ × ℕ). plus (apart x q.0 * apart x q.0) (row_cost mask w y q.0 q.1)) none (grid w (upto h))

-- the row that is written for an answer (R12): -1 where nothing is on
unfoldable pub row_of : Option (ℕ × ℕ) → ℤ
row_of none = negsuc 0
row_of (some q) = pos q.1

-- the column that is written for an answer (R12): 0 where nothing is on
unfoldable pub column_of : Option (ℕ × ℕ) → ℤ
column_of none = pos 0
column_of (some q) = pos q.0

-- the two planes of the feature transform (R12)
unfoldable pub rows_plane : List ℕ → ℕ → ℕ → List ℤ
rows_plane mask h w = plane_of h w (λ (y x : ℕ). row_of (nearest mask h w y x))

unfoldable pub columns_plane : List ℕ → ℕ → ℕ → List ℤ
columns_plane mask h w = plane_of h w (λ (y x : ℕ). column_of (nearest mask h w y x))

-- dy² + dx² from (y, x) to (j, i) (R10)
unfoldable pub away : ℕ → ℕ → ℕ → ℕ → ℕ
away y x j i = apart y j * apart y j + apart x i * apart x i

-- the same to an answer; nothing on counts as row -1 and column 0, as in the planes (R13)
unfoldable pub distance_to : ℕ → ℕ → Option (ℕ × ℕ) → ℕ
distance_to y x none = suc y * suc y + x * x
distance_to y x (some q) = away y x q.1 q.0

-- the squared distance from (y, x) to its nearest on-pixel (R13)
unfoldable pub distance : List ℕ → ℕ → ℕ → ℕ → ℕ → ℕ
distance mask h w y x = distance_to y x (nearest mask h w y x)

unfoldable pub distance_plane : List ℕ → ℕ → ℕ → List ℕ
distance_plane mask h w = plane_of h w (distance mask h w)
