-- `weights::weigh_all` meets its contract.
-- Assumes nothing.
use Rattle.std.proofs.Common.{arith}
use lib.Ieee.{nan}
use Rattle.plane.proofs.InPlace.{changed-none, changed-more, changed-end}
use Rattle.plane.specs.Mask.{is_on}
use Rattle.outline.specs.Cut.{weight_at, weights_of}
use Rattle.weights.specs.steps.Weight.{on_weight, weight_for}
use Rattle.weights.proofs.weigh_all.Goals as goal

pub loop-i-init : goal.loop-i-init
loop-i-init c = changed-none nan _ _

pub loop-i-preserved : goal.loop-i-preserved
unfolding weight_at weight_for on_weight is_on
loop-i-preserved c =
    let l = c.loop-i in
    changed-more nan _ _ l.out l.i _ l.invariant (omega arith) c.weigh.ensures

pub returns : goal.returns
unfolding weights_of
returns c =
    let l = c.loop-i in
    changed-end nan _ _ l.out l.i l.invariant (omega arith)
