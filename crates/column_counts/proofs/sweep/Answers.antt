-- `column_counts::sweep` meets its contract. The loop's invariant: the counts are the running counts before the step to row y, and the
-- first y rows are written.
-- Assumes nothing.
use Rattle.std.proofs.Common.{◌≡◌, ℕ, List, length, get_or, sym, ap, ◌∙◌, add-one, arith}
use Rattle.plane.specs.Search.{count_below}
use Rattle.plane.specs.Mask.{is_on, mask_of}
use Rattle.plane.proofs.Mask.{mask-length}
use Rattle.plane.specs.Box.{lesser_of}
use Rattle.counts.specs.Running.{running}
use Rattle.counts.proofs.Counting.{running-count}
use Rattle.column_counts.specs.steps.Strip.{on_strip}
use Rattle.column_counts.proofs.Strips.{counted-as, column-tested, row-swept}
use Rattle.column_counts.proofs.sweep.Goals as goal
use Rattle.plane.proofs.Bounds.{lesser-min}

pub loop-y-init : goal.loop-y-init
unfolding running
loop-y-init c =
    let s = c.args.strip in
    let w = c.requires.written in
    let first : c.min.result ≡ lesser_of s.k s.size.h = omega (arith, c.min.ensures, lesser-min s.k s.size.h) in
    record {
      counted = counted-as c.enter_rows.ensures (λ x g. ap (λ (m : ℕ). count_below m (on_strip s x)) first);
      written = record { size = w.size; before = w.before; done = λ y x l m. absurd (omega arith) };
    }

pub loop-y-preserved : goal.loop-y-preserved
loop-y-preserved c =
    let s = c.args.strip in
    let y = c.loop-y.y in
    let here = c.loop-y-test.true in
    let call = c.slide-t in
    let low = call.new.low in
    let slid : length low ≡ s.n = omega (arith, call.auto.low, c.requires.size) in
    let made : call.new.out ≡ mask_of (length low) (is_on low) = call.ensures.tested in
    record {
      counted =
          counted-as call.ensures.counted
          (λ x g. sym (ap (running s.size.h s.k (on_strip s x)) (add-one y) ∙ running-count s.size.h s.k (on_strip s x) y here));
      written =
          row-swept c.loop-y.invariant.written s.inside here call.new.out (ap length made ∙ mask-length (length low) (is_on low) ∙ slid)
          (λ x g.
          ap (λ (u : List ℕ). get_or u x 0) made
          ∙ column-tested s.plane.now s.size.h s.size.w s.k s.c y call.ensures.counted call.ensures.few x (omega arith));
    }

pub returns : goal.returns
returns c =
    let e : c.loop-y.y ≡ c.args.strip.size.h = omega arith in
    rw e at c.loop-y.invariant.written
