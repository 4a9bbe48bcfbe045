-- `row_counts::dilate_block` meets its contract. The loop's invariant: v is the running value before column c + x, and the pixels before x
-- are written.
-- Assumes nothing.
use Rattle.std.proofs.Common.{◌≤◌}
use Rattle.row_counts.proofs.RowLaws.{Reached}
use Rattle.row_counts.proofs.dilate_block.Given as goal

abbrev pub invariant-loop-x : goal.invariant-loop-x
invariant-loop-x l = record { within : l.x ≤ l.m; reached : Reached l.row.pixels.now l.row.k l.c l.m l.v l.out l.x }
