-- `column_counts::slide` meets its contract.
-- Assumes nothing.
use Rattle.std.proofs.Common.{ℕ, ◌+◌, ◌∙◌, arith}
use Rattle.counts.specs.Running.{enters, leaves, running}
use Rattle.counts.proofs.Counting.{leaves-held, running-most, running-count}
use Rattle.column_counts.specs.steps.Strip.{on_strip}
use Rattle.column_counts.proofs.Strips.{counted-later, counted-as, counted-small, counted_step}
use Rattle.column_counts.proofs.slide.Goals as goal

pub balance_after-u-requires : goal.balance_after-u-requires
balance_after-u-requires c =
    let s = c.args.strip in
    let row = c.requires.following.row in
    counted-small c.requires.counted (λ x g. omega (arith, running-most s.size.h s.k (on_strip s x) c.args.y (omega arith), s.size.sides.tall))

pub returns : goal.returns
unfolding running
returns c =
    let f = c.follow in
    let b = c.balance_after-u in
    let s = c.args.strip in
    let y = c.args.y in
    let on = on_strip s in
    let row = c.requires.following.row in
    let stepped =
    counted_step (b.ensures.kept _ c.requires.counted) (λ (x : ℕ). enters s.size.h s.k (on x) y) (λ (x : ℕ). leaves s.k (on x) y)
    f.new.low f.auto.low b.ensures.few f.ensures.each (λ x g. leaves-held s.size.h s.k (on x) y row) in
    record {
      few = omega (arith, b.ensures.few);
      counted = counted-as (counted-later stepped {u = b.result + 2} (omega arith)) (λ x g. running-count s.size.h s.k (on x) y row);
      tested = f.ensures.tested ∙ rw f.auto.low;
    }
