-- `next_pass::newly_on` meets its contract.
-- Assumes nothing.
use Rattle.std.proofs.Common.{◌≡◌, ◌+◌, ◌-◌, refl, sym, length, ◌∙◌, arith}
use Rattle.plane.specs.Search.{count_below}
use Rattle.counts.proofs.Put.{part_length}
use Rattle.next_pass.specs.NextPass.{newly_on}
use Rattle.next_pass.proofs.Counts.{newly-then, newly-most}
use Rattle.next_pass.proofs.newly_on.Goals as goal

pub loop-i-init : goal.loop-i-init
unfolding newly_on count_below
loop-i-init c = record { within = omega arith; count = refl }

pub block-requires : goal.block-requires
block-requires c =
    let i = c.loop-i.i in
    let m = i + c.min.result - i in
    let before = part_length c.args.before.now i m (omega (arith, c.min.ensures)) in
    let after = part_length c.args.after.now i m (omega (arith, c.min.ensures, c.requires)) in
    record { after_len = after ∙ sym before; before_len_bound = omega (arith, before, c.min.ensures) }

pub overflow_add-n : goal.overflow_add-n
overflow_add-n c =
    let a = c.args in
    let l = c.loop-i in
    let end = l.i + c.min.result in
    let more = newly-then a.before.now a.after.now l.i end (omega arith) (omega (arith, c.min.ensures)) l.invariant.count
    (c.from-n.ensures ∙ c.block.ensures) in
    omega (arith, more, newly-most end a.before.now a.after.now, c.min.ensures)

pub loop-i-preserved : goal.loop-i-preserved
loop-i-preserved c =
    let a = c.args in
    let l = c.loop-i in
    let more = newly-then a.before.now a.after.now l.i (l.i + c.min.result) (omega arith) (omega (arith, c.min.ensures)) l.invariant.count
    (c.from-n.ensures ∙ c.block.ensures) in
    let end : l.i + c.min.result ≡ l.i + 240 = omega (arith, c.min.ensures) in
    record { within = omega arith; count = more ∙ rw end }

pub returns : goal.returns
returns c =
    let e : c.loop-i.i ≡ length c.args.before.now = omega arith in
    c.loop-i.invariant.count ∙ rw e

pub returns-2 : goal.returns-2
returns-2 c =
    let a = c.args in
    let l = c.loop-i in
    let more = newly-then a.before.now a.after.now l.i (l.i + c.min.result) (omega arith) (omega (arith, c.min.ensures)) l.invariant.count
    (c.from-n.ensures ∙ c.block.ensures) in
    let end : l.i + c.min.result ≡ length a.before.now = omega (arith, c.min.ensures) in
    more ∙ rw end
