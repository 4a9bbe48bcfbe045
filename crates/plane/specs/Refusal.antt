-- Refusals: a call that is not as it should be is declined by a refusal that has a number, and what was lent to it stays as it was.
-- Assumes nothing.
use Rattle.std.specs.Prelude.{ℕ, ◌+◌, ◌*◌, Bool, cond, ◌&&◌, List, [], ◌∷◌, eqb, leb, Result, Ok, Err}
use Rattle.plane.specs.Plane.{most_side}
use Rattle.plane.specs.declared.answer.Refusal.{Refusal}
use Rattle.plane.specs.declared.answer.Refusal.TheVariants as refusal

-- the number of a refusal (R44 to R53, R82)
abbrev pub number_of : Refusal → ℕ
number_of refusal.Sides = 1
number_of refusal.Inputs = 2
number_of refusal.Outputs = 3
number_of refusal.Colours = 4
number_of refusal.Tolerance = 5
number_of refusal.Alpha = 6
number_of refusal.Part = 7
number_of refusal.Header = 8
number_of refusal.FileLength = 9
number_of refusal.Pixels = 10
number_of refusal.CardColour = 11

-- the refusal that has a number from 1 to 11 (R44 to R53, R82)
abbrev pub refusal_by : ℕ → Refusal
refusal_by n =
    cond (eqb n 1) refusal.Sides (cond (eqb n 2) refusal.Inputs (cond (eqb n 3) refusal.Outputs (cond (eqb n 4) refusal.Colours
    (cond (eqb n 5) refusal.Tolerance (cond (eqb n 6) refusal.Alpha (cond (eqb n 7) refusal.Part (cond (eqb n 8) refusal.Header
    (cond (eqb n 9) refusal.FileLength (cond (eqb n 10) refusal.Pixels refusal.CardColour)))))))))

-- a test that a call must pass, with the number by which the call is declined where it does not (R54 to R59)
abbrev pub Test : Type 0
Test = ℕ × Bool

-- of tests in order, the number of the first that fails; 0 where all hold (R44 to R61)
unfoldable pub refusal_of : List Test → ℕ
refusal_of [] = 0
refusal_of (t ∷ ts) = cond t.1 (refusal_of ts) t.0

-- the answer of a call with this refusal, 0 where it is accepted: its value, or why it was declined (R71)
unfoldable pub answer_for : {A : Type 0} → ℕ → A → Result A Refusal
answer_for refusal value = cond (eqb refusal 0) (Ok value) (Err (refusal_by refusal))

-- the answer of such a call that has no value (R71)
abbrev pub done_for : ℕ → Result Unit Refusal
done_for refusal = answer_for refusal tt

-- the number of an answer: 0 for an accepted call, else the number by which it was declined (R60)
abbrev pub refusal_of_answer : {A : Type 0} → Result A Refusal → ℕ
refusal_of_answer (Ok value) = 0
refusal_of_answer (Err refusal) = number_of refusal

-- what a buffer holds after a call with this refusal (R60): accepted, the new contents, and refused, what it held before
unfoldable pub after : {A : Type 0} → ℕ → A → A → A
after refusal new old = cond (eqb refusal 0) new old

-- ---- the tests of lengths that many calls share

-- each side is from 1 to the largest side (R44)
abbrev pub sides_ok : ℕ → ℕ → Bool
sides_ok h w = leb 1 h && leb h most_side && leb 1 w && leb w most_side

-- a length is that of a plane, and of a plane of three channels (R45)
abbrev pub is_plane : ℕ → ℕ → ℕ → Bool
is_plane h w n = eqb n (h * w)

abbrev pub is_colours : ℕ → ℕ → ℕ → Bool
is_colours h w n = eqb n (3 * (h * w))

-- how many numbers a work buffer holds at least, and whether a length is enough (R46)
abbrev pub room_for : ℕ → ℕ → ℕ
room_for h w = 2 * (h * w) + 2 * (h + w) + 16

abbrev pub is_room : ℕ → ℕ → ℕ → Bool
is_room h w n = leb (room_for h w) n
