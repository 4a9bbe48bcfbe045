-- `next_pass::block` meets its contract.
-- Assumes nothing.
use Rattle.std.proofs.Common.{◌≡◌, ◌+◌, length, refl, ◌∙◌, arith}
use Rattle.plane.specs.Search.{count_below}
use Rattle.plane.specs.Plane.{on}
use Rattle.plane.specs.Mask.{is_on}
use Rattle.plane.proofs.Search.{count_most}
use Rattle.next_pass.specs.NextPass.{newly_on}
use Rattle.next_pass.proofs.Counts.{new, new_more}
use Rattle.next_pass.proofs.block.Goals as goal

pub loop-i-init : goal.loop-i-init
unfolding count_below
loop-i-init c = refl

pub overflow_add-n : goal.overflow_add-n
unfolding is_on on
overflow_add-n c =
    let l = c.loop-i in
    let a = c.args in
    let more = new_more a.before.now a.after.now l.i l.invariant c.from-n.ensures in
    omega (arith, more, count_most (new a.before.now a.after.now) (l.i + 1), c.requires.before_len_bound)

pub loop-i-preserved : goal.loop-i-preserved
unfolding is_on on
loop-i-preserved c = new_more c.args.before.now c.args.after.now c.loop-i.i c.loop-i.invariant c.from-n.ensures

pub returns : goal.returns
unfolding newly_on
returns c =
    let e : c.loop-i.i ≡ length c.args.before.now = omega arith in
    c.loop-i.invariant ∙ rw e
