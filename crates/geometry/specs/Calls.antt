-- What each public call ensures: its answer, every output, and what a refusal leaves in the work buffer. A name with ' is what a buffer
-- holds afterwards.
-- Assumes nothing.
use Rattle.std.specs.Prelude.{ℕ, ◌≡◌, List, ℤ, length, Result}
use Rattle.plane.specs.declared.answer.Refusal.{Refusal}
use Rattle.plane.specs.Refusal.{after, answer_for, done_for}
use Rattle.nearest.specs.Nearest.{rows_plane, columns_plane, distance_plane}
use Rattle.labels.specs.Labels.{parts, labels_plane}
use Rattle.squares.specs.Squares.{squares_plane}
use Rattle.squares.specs.Work.{BitOrOld}
use Rattle.geometry.specs.Refusal.{plane_refusal, nearest_refusal, fill_refusal}
use Rattle.geometry.specs.Fill.{filled_colours}

-- the refusal of a call with these buffers, 0 where it is accepted (R54)
abbrev pub plane_refusal_in : List ℕ → ℕ → ℕ → List ℕ → List ℕ → ℕ
plane_refusal_in mask h w work out = plane_refusal h w (length mask) (length out) (length work)

abbrev pub nearest_refusal_in : List ℕ → ℕ → ℕ → List ℕ → List ℤ → List ℤ → ℕ
nearest_refusal_in mask h w work rows cols = nearest_refusal h w (length mask) (length rows) (length cols) (length work)

abbrev pub fill_refusal_in : List ℕ → List ℕ → ℕ → ℕ → List ℕ → List ℕ → ℕ
fill_refusal_in colours mask h w work out = fill_refusal h w (length colours) (length mask) (length out) (length work)

-- feature_transform: the row and the column of each pixel's nearest on-pixel (R10 to R12)
pub record NearestCalled (mask : List ℕ) (h w : ℕ) (work : List ℕ) (rows cols : List ℤ)
    (r : Result Unit Refusal) (work' : List ℕ) (rows' cols' : List ℤ) : Type 0 where
  pub answer : r ≡ done_for (nearest_refusal_in mask h w work rows cols)
  pub rows_are : rows' ≡ after (nearest_refusal_in mask h w work rows cols) (rows_plane mask h w) rows
  pub cols_are : cols' ≡ after (nearest_refusal_in mask h w work rows cols) (columns_plane mask h w) cols
  pub kept : (nearest_refusal_in mask h w work rows cols ≡ 0 → ⊥) → work' ≡ work

-- label4: the labels of the mask's parts, and how many there are (R6, R7)
pub record LabelsCalled (mask : List ℕ) (h w : ℕ) (parents labels : List ℕ) (r : Result ℕ Refusal) (parents' labels' : List ℕ) : Type 0 where
  pub answer : r ≡ answer_for (plane_refusal_in mask h w parents labels) (parts mask h w)
  pub labels_are : labels' ≡ after (plane_refusal_in mask h w parents labels) (labels_plane mask h w) labels
  pub kept : (plane_refusal_in mask h w parents labels ≡ 0 → ⊥) → parents' ≡ parents

-- a call with an answer, one output plane, which holds `new` where it is accepted, and one work buffer (R63)
pub record PlaneCalled (refusal : ℕ) (new work out : List ℕ) (r : Result Unit Refusal) (work' out' : List ℕ) : Type 0 where
  pub answer : r ≡ done_for refusal
  pub out_is : out' ≡ after refusal new out
  pub kept : (refusal ≡ 0 → ⊥) → work' ≡ work

-- binary_dilation8: the mask dilated by a square (R8, R9); every place of the work buffer holds afterwards 0, 1 or its old number (R88)
pub record SquaresCalled (mask : List ℕ) (h w iterations : ℕ) (work out : List ℕ) (r : Result Unit Refusal) (work' out' : List ℕ) : Type 0 where
  pub called : PlaneCalled (plane_refusal_in mask h w work out) (squares_plane mask h w iterations) work out r work' out'
  pub places : BitOrOld work work'

-- square_distance: dy² + dx² of each pixel from its nearest on-pixel (R13)
abbrev pub DistanceCalled : List ℕ → ℕ → ℕ → List ℕ → List ℕ → Result Unit Refusal → List ℕ → List ℕ → Type 0
DistanceCalled mask h w work out = PlaneCalled (plane_refusal_in mask h w work out) (distance_plane mask h w) work out

-- fill_transparent: each pixel's colour bits taken from its nearest on-pixel (R14)
abbrev pub FillCalled : List ℕ → List ℕ → ℕ → ℕ → List ℕ → List ℕ → Result Unit Refusal → List ℕ → List ℕ → Type 0
FillCalled colours mask h w work out = PlaneCalled (fill_refusal_in colours mask h w work out) (filled_colours colours mask h w) work out
