-- `row_counts::dilate_line` meets its contract. The loop's invariant: n is the running value before column c, and the pixels before c are
-- written.
-- Assumes nothing.
use Rattle.std.proofs.Common.{length, ◌≤◌}
use Rattle.row_counts.proofs.RowLaws.{Written}
use Rattle.row_counts.proofs.dilate_line.Given as goal

abbrev pub invariant-loop-c : goal.invariant-loop-c
invariant-loop-c l = record { within : l.c ≤ length l.row.pixels.now; written : Written l.row.pixels.now l.row.k l.n l.out l.c }
