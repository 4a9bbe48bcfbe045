-- `column_counts::test_line` meets its contract. The loop's invariant: the pixels before x are written.
-- Assumes nothing.
use Rattle.std.proofs.Common.{ℕ, length}
use Rattle.plane.specs.Plane.{bit}
use Rattle.plane.specs.Mask.{is_on}
use Rattle.counts.proofs.Begun.{Begun}
use Rattle.column_counts.proofs.test_line.Given as goal

abbrev pub invariant-loop-x : goal.invariant-loop-x
invariant-loop-x l = Begun (λ (i : ℕ). bit (is_on l.low i)) (length l.low) l.out l.x
