-- `growth::tidy` meets its contract.
-- Assumes nothing.
use Rattle.std.proofs.Common.{ℕ}
use Rattle.plane.specs.Plane.{bit}
use Rattle.plane.specs.Mask.{is_on}
use Rattle.plane.proofs.InPlace.{Changed}
use Rattle.growth.proofs.tidy.Given as goal

abbrev pub invariant-loop-b : goal.invariant-loop-b
invariant-loop-b l = Changed 0 (λ (k : ℕ). bit (is_on l.initial.back k)) l.initial.back l.back l.b-index
