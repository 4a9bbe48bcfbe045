-- `growth::edges` meets its contract.
-- Assumes nothing.
use Rattle.std.proofs.Common.{ℕ}
use Rattle.plane.specs.Plane.{bit}
use Rattle.plane.proofs.InPlace.{Changed}
use Rattle.growth.specs.steps.Marks.{edge_test}
use Rattle.growth.proofs.edges.Given as goal

abbrev pub invariant-loop-i : goal.invariant-loop-i
invariant-loop-i l = Changed 0 (λ (k : ℕ). bit (edge_test l.back l.shallow k)) l.initial.marks l.marks l.i
