-- `row_counts::run` meets its contract. The loop's invariant: v is the byte after x steps, and the pixels before x are written.
-- Assumes nothing.
use Rattle.std.proofs.Common.{◌≡◌, ℕ, ◌+◌, ◌≤◌, length}
use Rattle.plane.specs.Plane.{on, bit}
use Rattle.counts.specs.steps.Parts.{full_byte}
use Rattle.row_counts.specs.steps.Rows.{tally}
use Rattle.counts.proofs.Begun.{Begun}
use Rattle.row_counts.proofs.run.Given as goal

abbrev pub invariant-loop-x : goal.invariant-loop-x
invariant-loop-x l = record {
  small : l.v ≤ 255;
  value : l.v ≡ tally l.steps (full_byte l.n) l.x;
  written : Begun (λ (i : ℕ). bit (on (tally l.steps (full_byte l.n) (i + 1)))) (length l.steps) l.out l.x;
}
