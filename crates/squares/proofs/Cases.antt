-- Cases that the prover computes from the definitions.
-- Assumes nothing.
use mathlib.Core.Path.{◌≡◌, refl}
use mathlib.Core.List.{[], ◌∷◌}
use Rattle.plane.specs.Search.{some_below}
use Rattle.plane.specs.Plane.{on, bit, on_at, apart, within, table, rows_upto, plane_of}
use Rattle.squares.specs.Squares.{larger, reach, in_square, squares_plane}

-- R76: 1 by 5, on at column 0, with k 1 and with iterations 0; none on
line-cases : (squares_plane (1 ∷ 0 ∷ 0 ∷ 0 ∷ 0 ∷ []) 1 5 1 ≡ (1 ∷ 1 ∷ 0 ∷ 0 ∷ 0 ∷ []))
    × (squares_plane (1 ∷ 0 ∷ 0 ∷ 0 ∷ 0 ∷ []) 1 5 0 ≡ (1 ∷ 1 ∷ 1 ∷ 1 ∷ 1 ∷ []))
    × (squares_plane (0 ∷ 0 ∷ 0 ∷ 0 ∷ 0 ∷ []) 1 5 0 ≡ (0 ∷ 0 ∷ 0 ∷ 0 ∷ 0 ∷ []))
unfolding larger reach in_square squares_plane some_below on bit on_at apart within table rows_upto plane_of
line-cases = (refl, refl, refl)

-- 4 by 5, on at (1, 3) with the byte 7: k 1, k 2 and k 4294967296; 3 by 1, on at row 2, k 1
plane-cases : (squares_plane (0 ∷ 0 ∷ 0 ∷ 0 ∷ 0 ∷ 0 ∷ 0 ∷ 0 ∷ 7 ∷ 0 ∷ 0 ∷ 0 ∷ 0 ∷ 0 ∷ 0 ∷ 0 ∷ 0 ∷ 0 ∷ 0 ∷ 0 ∷ []) 4 5 1
    ≡ (0 ∷ 0 ∷ 1 ∷ 1 ∷ 1 ∷ 0 ∷ 0 ∷ 1 ∷ 1 ∷ 1 ∷ 0 ∷ 0 ∷ 1 ∷ 1 ∷ 1 ∷ 0 ∷ 0 ∷ 0 ∷ 0 ∷ 0 ∷ []))
    × (squares_plane (0 ∷ 0 ∷ 0 ∷ 0 ∷ 0 ∷ 0 ∷ 0 ∷ 0 ∷ 7 ∷ 0 ∷ 0 ∷ 0 ∷ 0 ∷ 0 ∷ 0 ∷ 0 ∷ 0 ∷ 0 ∷ 0 ∷ 0 ∷ []) 4 5 2
    ≡ (0 ∷ 1 ∷ 1 ∷ 1 ∷ 1 ∷ 0 ∷ 1 ∷ 1 ∷ 1 ∷ 1 ∷ 0 ∷ 1 ∷ 1 ∷ 1 ∷ 1 ∷ 0 ∷ 1 ∷ 1 ∷ 1 ∷ 1 ∷ []))
    × (squares_plane (0 ∷ 0 ∷ 0 ∷ 1 ∷ []) 2 2 4294967296 ≡ (1 ∷ 1 ∷ 1 ∷ 1 ∷ [])) × (squares_plane (0 ∷ 0 ∷ 1 ∷ []) 3 1 1 ≡ (0 ∷ 1 ∷ 1 ∷ []))
unfolding larger reach in_square squares_plane some_below on bit on_at apart within table rows_upto plane_of
plane-cases = (refl, refl, refl, refl)
