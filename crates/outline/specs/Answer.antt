-- The answers of ground and cut, with their values for every case.
-- Assumes nothing.
use Rattle.std.specs.Prelude.{ℕ, cond, List, Float, Option, Some, None, Result}
use Rattle.plane.specs.declared.answer.Refusal.{Refusal}
use Rattle.plane.specs.Refusal.{answer_for}
use Rattle.colour.specs.declared.Rgb.{Rgb}
use Rattle.outline.specs.Ground.{is_found}
use Rattle.outline.specs.Cut.{Cut}
use Rattle.outline.specs.declared.Outcome.{Outcome}

-- the reference where the ground is found (R22)
unfoldable pub found_reference : List Float → ℕ → ℕ → Rgb → Float → Option Rgb
found_reference colours h w reference tolerance = cond (is_found colours h w reference tolerance) (Some reference) None

-- the answer of ground with this refusal: accepted, the reference where the ground is found (R22, R71)
abbrev pub ground_for : ℕ → List Float → ℕ → ℕ → Rgb → Float → Result (Option Rgb) Refusal
ground_for refusal colours h w reference tolerance = answer_for refusal (found_reference colours h w reference tolerance)

-- the answer of the cut with this refusal: accepted, the keyed flag and the crop box of the cut (R33, R35, R71)
abbrev pub outcome_for : ℕ → Cut → Result Outcome Refusal
outcome_for refusal c = answer_for refusal (record { keyed = c.keyed; crop = c.box })
