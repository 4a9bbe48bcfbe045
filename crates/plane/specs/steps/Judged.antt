-- The tests that a call makes, as the definitions have them, and what an answer says of them.
-- Assumes nothing.
use Rattle.std.specs.Prelude.{Bool, List, [], ◌∷◌, Result, Ok, Err}
use Rattle.plane.specs.Refusal.{Test, number_of}
use Rattle.plane.specs.declared.answer.Refusal.{Refusal}

-- tests with refusals, as tests with their numbers
unfoldable pub tests_of : List (Bool × Refusal) → List Test
tests_of [] = []
tests_of (t ∷ ts) = (number_of t.1, t.0) ∷ tests_of ts

-- an answer without its value
abbrev pub done : {A : Type 0} → Result A Refusal → Result Unit Refusal
done (Ok value) = Ok tt
done (Err refusal) = Err refusal
