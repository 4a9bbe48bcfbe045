-- Cases of nearest that the prover computes from the definitions.
-- Assumes nothing.
use mathlib.Core.Path.{◌≡◌, refl}
use mathlib.Core.List.{[], ◌∷◌}
use mathlib.Core.Option.{none, some}
use lib.IntN.{pos, negsuc}
use Rattle.plane.specs.Plane.{on, on_at, apart, table, rows_upto, plane_of}
use Rattle.line.specs.Walk.{lower}
use Rattle.line.specs.Grid.{value_of, walk, upto, grid, plus}
use Rattle.nearest.specs.Nearest.{row_cost, nearest, row_of, column_of, rows_plane, columns_plane}
use Rattle.nearest.specs.Nearest.{away, distance_to, distance, distance_plane}

-- R73 and R74: 1 by 3, on at columns 0 and 2; 3 by 1, on at rows 0 and 2; 2 by 2, on at (0, 1) and (1, 0); none on
nearest-cases : (nearest (1 ∷ 0 ∷ 1 ∷ []) 1 3 0 1 ≡ some (0, 0)) × (nearest (1 ∷ 0 ∷ 1 ∷ []) 3 1 1 0 ≡ some (0, 0))
    × (nearest (0 ∷ 1 ∷ 1 ∷ 0 ∷ []) 2 2 0 0 ≡ some (0, 1)) × (nearest (0 ∷ 1 ∷ 1 ∷ 0 ∷ []) 2 2 1 1 ≡ some (0, 1))
    × (nearest (0 ∷ 0 ∷ 0 ∷ 0 ∷ []) 2 2 1 1 ≡ none)
unfolding lower on on_at apart value_of walk upto grid plus row_cost nearest
nearest-cases = (refl, refl, refl, refl, refl)

-- the planes of 3 by 4 with three pixels on, and of 2 by 2 with none
plane-cases :
    (rows_plane (0 ∷ 0 ∷ 0 ∷ 7 ∷ 0 ∷ 0 ∷ 0 ∷ 0 ∷ 1 ∷ 0 ∷ 0 ∷ 1 ∷ []) 3 4
    ≡ (pos 2 ∷ pos 0 ∷ pos 0 ∷ pos 0 ∷ pos 2 ∷ pos 2 ∷ pos 0 ∷ pos 0 ∷ pos 2 ∷ pos 2 ∷ pos 2 ∷ pos 2 ∷ []))
    × (columns_plane (0 ∷ 0 ∷ 0 ∷ 7 ∷ 0 ∷ 0 ∷ 0 ∷ 0 ∷ 1 ∷ 0 ∷ 0 ∷ 1 ∷ []) 3 4
    ≡ (pos 0 ∷ pos 3 ∷ pos 3 ∷ pos 3 ∷ pos 0 ∷ pos 0 ∷ pos 3 ∷ pos 3 ∷ pos 0 ∷ pos 0 ∷ pos 3 ∷ pos 3 ∷ []))
    × (rows_plane (0 ∷ 0 ∷ 0 ∷ 0 ∷ []) 2 2 ≡ (negsuc 0 ∷ negsuc 0 ∷ negsuc 0 ∷ negsuc 0 ∷ []))
    × (columns_plane (0 ∷ 0 ∷ 0 ∷ 0 ∷ []) 2 2 ≡ (pos 0 ∷ pos 0 ∷ pos 0 ∷ pos 0 ∷ []))
unfolding lower on on_at apart value_of walk upto grid plus row_cost nearest table rows_upto plane_of row_of column_of rows_plane columns_plane
plane-cases = (refl, refl, refl, refl)

-- the distances of 2 by 2 with none on, and of 2 by 3 with two on
distance_cases :
    (distance_plane (0 ∷ 0 ∷ 0 ∷ 0 ∷ []) 2 2 ≡ (1 ∷ 2 ∷ 4 ∷ 5 ∷ []))
    × (distance_plane (0 ∷ 1 ∷ 1 ∷ 0 ∷ 0 ∷ 0 ∷ []) 2 3 ≡ (1 ∷ 0 ∷ 0 ∷ 2 ∷ 1 ∷ 1 ∷ []))
unfolding lower on on_at apart value_of walk upto grid plus row_cost nearest table rows_upto plane_of away distance_to distance distance_plane
distance_cases = (refl, refl)
