-- `labels::scan_row` meets its contract. The loop's invariant: the pixels before x have labels, and `left` and `diag` are those beside x.
-- Assumes nothing.
use Rattle.std.proofs.Common.{◌≡◌, ◌+◌, ◌*◌}
use Rattle.labels.specs.steps.Trees.{left_at, diag_at, Scanned}
use Rattle.plane.specs.steps.Buffer.{SameBuffer}
use Rattle.labels.proofs.scan_row.Given as goal

abbrev pub invariant-loop-x : goal.invariant-loop-x
invariant-loop-x l = let m = l.mask in let i = l.y * m.size.w + l.x in record {
  so_far : Scanned m.pixels.now l.labels l.trees.parents.now m.size.h m.size.w i l.trees.count;
  to_left : l.left ≡ left_at l.labels i l.x;
  above_left : l.diag ≡ diag_at l.labels m.size.w i l.x;
  same_buffer : SameBuffer l.initial.trees.parents l.trees.parents;
}
