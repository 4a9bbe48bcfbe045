-- `row_counts::change_line` meets its contract. The loop's invariant: the steps before x are written.
-- Assumes nothing.
use Rattle.std.proofs.Common.{arith}
use Rattle.plane.specs.Plane.{on}
use Rattle.plane.specs.Mask.{is_on}
use Rattle.counts.proofs.Begun.{begun-none, begun_more, begun-end}
use Rattle.counts.proofs.Parts.{changed-first, changed-sub}
use Rattle.row_counts.specs.steps.Rows.{change_line}
use Rattle.row_counts.proofs.change_line.Goals as goal

pub loop-x-init : goal.loop-x-init
loop-x-init c = begun-none c.requires.steps_size

pub loop-x-preserved : goal.loop-x-preserved
unfolding is_on on
loop-x-preserved c =
    let enters = changed-first (is_on c.args.enter.now c.loop-x.x) in
    begun_more c.loop-x.invariant (omega arith) (rw (c.from.ensures, c.from-in-loop-x.ensures, enters) (changed-sub _ _))

pub returns : goal.returns
unfolding change_line
returns c = begun-end c.loop-x.invariant (omega arith)
