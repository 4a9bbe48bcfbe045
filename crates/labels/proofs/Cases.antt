-- Labels of small masks, computed from the definitions: 10/01; 101/111; two arms that meet only in the last row; a spiral;
-- nine parts; nothing on.
-- Assumes nothing.
use mathlib.Core.Path.{◌≡◌, refl}
use mathlib.Core.List.{List, [], ◌∷◌}
use Prim.Native.Nat.{ℕ}
use Rattle.plane.specs.Plane.{on, apart, table, rows_upto, plane_of}
use Rattle.plane.specs.Search.{count_below}
use Rattle.plane.specs.Mask.{is_on}
use Rattle.labels.specs.Labels.{beside, renamed, merge, join_two, join_with, join_upto, first_pixel, is_first}
use Rattle.plane.specs.Box.{lesser_of}
use Rattle.labels.specs.Labels.{parts, label_of, label_at, labels_plane}

-- a mask's labels and their number
abbrev pub answer : List ℕ → ℕ → ℕ → List ℕ × ℕ
answer mask h w = (labels_plane mask h w, parts mask h w)

pub cases : answer (1 ∷ 0 ∷ 0 ∷ 1 ∷ []) 2 2
    ∷ answer (1 ∷ 0 ∷ 1 ∷ 1 ∷ 1 ∷ 1 ∷ []) 2 3
    ∷ answer (1 ∷ 0 ∷ 0 ∷ 1 ∷ 1 ∷ 0 ∷ 0 ∷ 1 ∷ 1 ∷ 1 ∷ 1 ∷ 1 ∷ []) 3 4
    ∷ answer (1 ∷ 1 ∷ 1 ∷ 1 ∷ 1 ∷ 0 ∷ 0 ∷ 0 ∷ 0 ∷ 1 ∷ 1 ∷ 1 ∷ 1 ∷ 0 ∷ 1 ∷ 1 ∷ 0 ∷ 0 ∷ 0 ∷ 1 ∷ 1 ∷ 1 ∷ 1 ∷ 1 ∷ 1 ∷ []) 5 5
    ∷ answer (0 ∷ 1 ∷ 0 ∷ 1 ∷ 0 ∷ 1 ∷ 0 ∷ 1 ∷ 0 ∷ 1 ∷ 0 ∷ 1 ∷ 1 ∷ 1 ∷ 0 ∷ 1 ∷ 0 ∷ 1 ∷ 0 ∷ 1 ∷ 0 ∷ 1 ∷ 0 ∷ 1 ∷ 0 ∷ []) 5 5
    ∷ answer (0 ∷ 0 ∷ 0 ∷ 0 ∷ []) 1 4
    ∷ []
    ≡ (1 ∷ 0 ∷ 0 ∷ 2 ∷ [], 2)
    ∷ (1 ∷ 0 ∷ 1 ∷ 1 ∷ 1 ∷ 1 ∷ [], 1)
    ∷ (1 ∷ 0 ∷ 0 ∷ 1 ∷ 1 ∷ 0 ∷ 0 ∷ 1 ∷ 1 ∷ 1 ∷ 1 ∷ 1 ∷ [], 1)
    ∷ (1 ∷ 1 ∷ 1 ∷ 1 ∷ 1 ∷ 0 ∷ 0 ∷ 0 ∷ 0 ∷ 1 ∷ 1 ∷ 1 ∷ 1 ∷ 0 ∷ 1 ∷ 1 ∷ 0 ∷ 0 ∷ 0 ∷ 1 ∷ 1 ∷ 1 ∷ 1 ∷ 1 ∷ 1 ∷ [], 1)
    ∷ (0 ∷ 1 ∷ 0 ∷ 2 ∷ 0 ∷ 3 ∷ 0 ∷ 4 ∷ 0 ∷ 5 ∷ 0 ∷ 4 ∷ 4 ∷ 4 ∷ 0 ∷ 6 ∷ 0 ∷ 4 ∷ 0 ∷ 7 ∷ 0 ∷ 8 ∷ 0 ∷ 9 ∷ 0 ∷ [], 9)
    ∷ (0 ∷ 0 ∷ 0 ∷ 0 ∷ [], 0)
    ∷ []
cases =
    unfold on apart table rows_upto plane_of count_below is_on beside lesser_of renamed merge join_two join_with join_upto
    first_pixel is_first parts label_of label_at labels_plane in refl
