-- `column_counts::step_line` meets its contract. The loop's invariant: the bytes before x are changed, and the pixels before x written.
-- Assumes nothing.
use Rattle.std.proofs.Common.{ℕ, length}
use Rattle.plane.specs.Plane.{on, bit}
use Rattle.plane.proofs.InPlace.{Changed}
use Rattle.counts.proofs.Begun.{Begun}
use Rattle.column_counts.proofs.Strips.{twice_moved}
use Rattle.column_counts.proofs.step_line.Given as goal

abbrev pub invariant-loop-x : goal.invariant-loop-x
invariant-loop-x l = record {
  low : Changed 0 (twice_moved l.enter l.leave l.initial.low) l.initial.low l.low l.x;
  out : Begun (λ (i : ℕ). bit (on (twice_moved l.enter l.leave l.initial.low i))) (length l.enter) l.out l.x;
}
