-- `row_counts::count` meets its contract. The loop's invariant: the on-pixels so far are counted.
-- Assumes nothing.
use Rattle.std.proofs.Common.{◌≡◌, ◌+◌, length, refl, ◌∙◌, arith}
use Rattle.plane.specs.Search.{count_below}
use Rattle.plane.specs.Plane.{on}
use Rattle.plane.specs.Mask.{is_on}
use Rattle.plane.proofs.Plane.{from_bool-bit, bit-most}
use Rattle.plane.proofs.Search.{count_most}
use Rattle.counts.proofs.Counting.{count-more}
use Rattle.row_counts.proofs.count.Goals as goal

pub overflow_add-n : goal.overflow_add-n
unfolding is_on on
overflow_add-n c =
    let l = c.loop-m in
    let p = is_on c.args.line.now in
    omega (arith, l.invariant, count_most p l.m-index, c.requires, c.from-n.ensures, from_bool-bit (p l.m-index), bit-most (p l.m-index))

pub loop-m-init : goal.loop-m-init
unfolding count_below
loop-m-init c = refl

pub loop-m-preserved : goal.loop-m-preserved
unfolding is_on on
loop-m-preserved c =
    let l = c.loop-m in
    let p = is_on c.args.line.now in
    let e : l.n + c.from-n.result ≡ count_below (l.m-index + 1) p =
    omega (arith, l.invariant, c.from-n.ensures, from_bool-bit (p l.m-index), count-more l.m-index p) in
    e

pub returns : goal.returns
returns c =
    let l = c.loop-m in
    let e : l.m-index ≡ length c.args.line.now = omega arith in
    l.invariant ∙ rw e
