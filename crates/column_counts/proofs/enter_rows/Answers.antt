-- `column_counts::enter_rows` meets its contract. The loop's invariant: the counts are those of the first j rows.
-- Assumes nothing.
use Rattle.std.proofs.Common.{◌≡◌, ℕ, sym, arith}
use Rattle.plane.specs.Search.{count_below}
use Rattle.plane.proofs.Search.{count_most}
use Rattle.column_counts.specs.steps.Strip.{on_strip}
use Rattle.counts.proofs.Counting.{count-more}
use Rattle.column_counts.proofs.Strips.{counted-later, counted-as, counted-small, counted-enter}
use Rattle.column_counts.proofs.enter_rows.Goals as goal

pub loop-j-init : goal.loop-j-init
unfolding count_below
loop-j-init c = record { few = omega arith; counted = c.requires.zeros }

pub balance_after-t-requires : goal.balance_after-t-requires
balance_after-t-requires c =
    let l = c.loop-j in
    let s = c.args.strip in
    counted-small l.invariant.counted (λ x g. omega (arith, count_most (on_strip s x) l.j, c.requires.rows, s.size.sides.tall))

pub loop-j-preserved : goal.loop-j-preserved
loop-j-preserved c =
    let l = c.loop-j in
    let on = on_strip c.args.strip in
    let b = c.balance_after-t in
    let e = c.move_row in
    let n = counted-enter (b.ensures.kept _ l.invariant.counted) (λ (x : ℕ). on x l.j) e.new.low e.auto.low (omega (arith, b.ensures.few)) e.ensures.each in
    record { few = omega (arith, b.ensures.few); counted = counted-as n (λ x g. sym (count-more l.j (on x))) }

pub returns : goal.returns
returns c =
    let l = c.loop-j in
    let e : l.j ≡ c.args.m = omega arith in
    rw e at (counted-later l.invariant.counted {u = 127} (omega (arith, l.invariant.few)))
