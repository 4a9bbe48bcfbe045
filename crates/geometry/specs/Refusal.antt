-- What the calls of this crate decline: their tests in order (R44 to R46, R50, R54, R58). Lengths are given as numbers.
-- Assumes nothing.
use Rattle.std.specs.Prelude.{ℕ, [], ◌∷◌, ltb, leb}
use Rattle.plane.specs.Refusal.{refusal_of, sides_ok, is_plane, is_colours, is_room}

-- labels, squares and square distance (R54): the mask, the output plane, the work buffer
unfoldable pub plane_refusal : ℕ → ℕ → ℕ → ℕ → ℕ → ℕ
plane_refusal h w mask out work =
    refusal_of ((1, sides_ok h w) ∷ (2, is_plane h w mask) ∷ (3, is_plane h w out) ∷ (3, is_room h w work) ∷ [])

-- nearest (R54): the mask, the planes of rows and columns, the work buffer
unfoldable pub nearest_refusal : ℕ → ℕ → ℕ → ℕ → ℕ → ℕ → ℕ
nearest_refusal h w mask rows cols work =
    refusal_of ((1, sides_ok h w) ∷ (2, is_plane h w mask) ∷ (3, is_plane h w rows) ∷ (3, is_plane h w cols) ∷ (3, is_room h w work) ∷ [])

-- fill (R54): the colours and the mask, the filled colours, the work buffer
unfoldable pub fill_refusal : ℕ → ℕ → ℕ → ℕ → ℕ → ℕ → ℕ
fill_refusal h w colours mask out work =
    refusal_of ((1, sides_ok h w) ∷ (2, is_colours h w colours) ∷ (2, is_plane h w mask) ∷ (3, is_colours h w out) ∷ (3, is_room h w work) ∷ [])

-- crop row (R58): the plane's length n; a box that is not empty and lies in the plane, and row y in it
unfoldable pub crop_refusal : ℕ → ℕ → ℕ → ℕ → ℕ → ℕ → ℕ → ℕ → ℕ
crop_refusal n h w y0 y1 x0 x1 y =
    refusal_of
    ((1, sides_ok h w) ∷ (2, is_plane h w n)
    ∷ (7, ltb y0 y1) ∷ (7, leb y1 h) ∷ (7, ltb x0 x1) ∷ (7, leb x1 w) ∷ (7, leb y0 y) ∷ (7, ltb y y1) ∷ [])
