-- `counts::move_line` meets its contract. The loop's invariant: the bytes before x are changed.
-- Assumes nothing.
use Rattle.std.proofs.Common.{◌≡◌, cond, ◌∙◌, le_refl, arith, ne_eqb}
use Rattle.plane.specs.Plane.{on}
use Rattle.plane.specs.Mask.{is_on}
use Rattle.plane.proofs.InPlace.{changed-none, changed-more, changed-end}
use Rattle.counts.specs.steps.Parts.{changed, moved_line}
use Rattle.counts.proofs.move_line.Goals as goal
use Rattle.counts.proofs.move_line.Goals.{then-line-x-ne0, else-line-x-ne0}

pub loop-x-init : goal.loop-x-init
loop-x-init c = changed-none 0 _ _

pub loop-x-preserved : goal.loop-x-preserved
unfolding changed is_on on
loop-x-preserved c =
    let l = c.loop-x in
    let a = c.args in
    let old = l.invariant.back l.x (le_refl l.x) in
    let j = c.if-line-x-ne0 in
    let byte : j.moved ≡ cond (is_on a.line.now l.x) a.change 0 =
    elim j.branch [
      | then-line-x-ne0 w ↦ w.moved-is ∙ rw (ne_eqb _ 0 w.if-line-x-ne0.true)
      | else-line-x-ne0 w ↦ w.moved-is ∙ rw w.if-line-x-ne0.false
    ] in
    changed-more 0 _ _ l.counts l.x _ l.invariant (omega arith) (rw (old, byte))

pub returns : goal.returns
unfolding moved_line
returns c = changed-end 0 _ _ c.loop-x.counts c.loop-x.x c.loop-x.invariant (omega arith)
