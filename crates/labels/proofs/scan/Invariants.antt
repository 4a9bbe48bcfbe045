-- `labels::scan` meets its contract. The loop's invariant: the rows above row y are scanned.
-- Assumes nothing.
use Rattle.std.proofs.Common.{◌*◌}
use Rattle.labels.specs.steps.Trees.{Scanned}
use Rattle.plane.specs.steps.Buffer.{SameBuffer}
use Rattle.labels.proofs.scan.Given as goal

abbrev pub invariant-loop-y : goal.invariant-loop-y
invariant-loop-y l = let m = l.mask in record {
  so_far : Scanned m.pixels.now l.labels l.trees.parents.now m.size.h m.size.w (l.y * m.size.w) l.trees.count;
  same_buffer : SameBuffer l.initial.trees.parents l.trees.parents;
}
