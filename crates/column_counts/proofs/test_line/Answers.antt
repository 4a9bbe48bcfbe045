-- `column_counts::test_line` meets its contract. The loop's invariant: the pixels before x are written.
-- Assumes nothing.
use Rattle.std.proofs.Common.{◌∙◌, arith}
use Rattle.plane.specs.Plane.{on}
use Rattle.plane.specs.Mask.{is_on, mask_of}
use Rattle.plane.proofs.Plane.{from_bool-bit}
use Rattle.counts.proofs.Begun.{begun-none, begun_more, begun-end}
use Rattle.column_counts.proofs.test_line.Goals as goal

pub loop-x-init : goal.loop-x-init
loop-x-init c = begun-none c.requires

pub loop-x-preserved : goal.loop-x-preserved
unfolding is_on on
loop-x-preserved c = begun_more c.loop-x.invariant (omega arith) (c.from.ensures ∙ from_bool-bit _)

pub returns : goal.returns
unfolding mask_of
returns c = begun-end c.loop-x.invariant (omega arith)
