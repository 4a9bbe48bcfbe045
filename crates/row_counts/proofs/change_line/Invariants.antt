-- `row_counts::change_line` meets its contract. The loop's invariant: the steps before x are written.
-- Assumes nothing.
use Rattle.std.proofs.Common.{ℕ, length}
use Rattle.plane.specs.Mask.{is_on}
use Rattle.counts.specs.steps.Parts.{step_of}
use Rattle.counts.proofs.Begun.{Begun}
use Rattle.row_counts.proofs.change_line.Given as goal

abbrev pub invariant-loop-x : goal.invariant-loop-x
invariant-loop-x l = Begun (λ (i : ℕ). step_of (is_on l.enter i) (is_on l.leave i)) (length l.enter) l.steps l.x
