-- Cases of the line pass that the prover computes from the definitions.
-- Assumes nothing.
use mathlib.Core.Path.{◌≡◌, refl}
use mathlib.Core.List.{[], ◌∷◌}
use Rattle.plane.specs.Plane.{apart, table}
use Rattle.line.specs.steps.FirstLeast.{first_least}
use Rattle.line.specs.Walk.{lower}
use Rattle.line.specs.Grid.{value_of}
use Rattle.line.specs.steps.Line.{value_at, offer, best, place_of, line_of}

-- 4,294,967,295 is above the largest cost, so it stands for no site; of equals the first site is taken
line-cases : (line_of [] ≡ []) × (line_of (4294967295 ∷ 4294967295 ∷ []) ≡ (4294967295 ∷ 4294967295 ∷ []))
    × (line_of (0 ∷ 4294967295 ∷ 0 ∷ []) ≡ (0 ∷ 0 ∷ 2 ∷ []))
    × (line_of (5 ∷ 0 ∷ 4294967295 ∷ 20 ∷ 1 ∷ 0 ∷ 4294967295 ∷ 0 ∷ []) ≡ (1 ∷ 1 ∷ 1 ∷ 4 ∷ 4 ∷ 5 ∷ 5 ∷ 7 ∷ []))
unfolding lower value_of first_least apart value_at offer best place_of table line_of
line-cases = (refl, refl, refl, refl)
