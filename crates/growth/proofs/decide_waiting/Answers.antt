-- `growth::decide_waiting` meets its contract.
-- Assumes nothing.
use Rattle.std.proofs.Common.{◌≡◌, get_or, arith}
use Rattle.plane.proofs.InPlace.{changed-more, changed-end}
use Rattle.growth.specs.steps.Marks.{last_mark}
use Rattle.growth.proofs.decide_waiting.Goals as goal

pub loop-i-preserved : goal.loop-i-preserved
unfolding last_mark
loop-i-preserved c =
    let l = c.loop-i in
    let a = c.args in
    let same : get_or l.marks l.i 0 ≡ get_or a.marks.now l.i 0 = l.invariant.back l.i (omega arith) in
    let e : c.last_mark.result ≡ last_mark a.photo.colours.now a.photo.reference a.nearest.now a.marks.now l.i =
    rw (← same) c.last_mark.ensures in
    changed-more 0 _ _ l.marks l.i c.last_mark.result l.invariant (omega arith) e

pub returns : goal.returns
returns c = let l = c.loop-i in changed-end 0 _ _ l.marks l.i l.invariant (omega arith)
