-- `row_counts::dilate_block` meets its contract. The loop's invariant: v is the running value before column c + x, and the pixels before x
-- are written.
-- Assumes nothing.
use Rattle.std.proofs.Common.{◌+◌, ◌-◌, length, sym, refl, ◌∙◌, add-zero, arith}
use Rattle.plane.specs.Mask.{is_on}
use Rattle.counts.proofs.Counting.{running-most}
use Rattle.counts.proofs.Put.{part_length}
use Rattle.row_counts.proofs.RowLaws.{block-long, block-steppable, same-part, same-value, reached-run, reached-all}
use Rattle.row_counts.proofs.dilate_block.Goals as goal

pub row_steps-requires : goal.row_steps-requires
row_steps-requires c = block-steppable c.requires

pub returns-then-not-any : goal.returns-then-not-any
returns-then-not-any c =
    let size = c.row_steps.auto.steps ∙ block-long c.requires in
    let inside = c.requires.inside in
    let none = sym c.any.ensures ∙ c.if-not-any.true in
    let start = rw (sym (add-zero c.args.c)) at c.requires.value in
    record {
      value = same-value c.row_steps.ensures size inside none c.args.n start;
      out_after = c.fill.ensures.after (λ y e. e) ∙ rw c.from.ensures (same-part c.row_steps.ensures size inside none c.args.n start);
    }

pub run-v-requires : goal.run-v-requires
run-v-requires c =
    let l = c.loop-x in
    let a = c.args in
    let size = c.row_steps.auto.steps ∙ block-long c.requires in
    let x = l.x in
    let m = c.min-e.result - x in
    record {
      size = part_length l.out x m (omega (arith, c.min-e.ensures)) ∙ sym (part_length c.row_steps.new.steps x m (omega (arith, c.min-e.ensures, size)));
      small =
          omega (
            arith,
            l.invariant.reached.value,
            a.row.wide,
            running-most (length a.row.pixels.now) a.row.k (is_on a.row.pixels.now) (a.c + x) (omega (arith, c.requires.inside)),
          );
    }

pub loop-x-preserved : goal.loop-x-preserved
loop-x-preserved c =
    let size = c.row_steps.auto.steps ∙ block-long c.requires in
    let e = c.min-e.ensures in
    record {
      within = omega arith;
      reached =
          reached-run c.row_steps.ensures size c.requires.inside c.loop-x.invariant.reached (omega arith) (omega arith) (omega arith)
          (omega arith) c.run-v.ensures.value c.run-v.ensures.out_after;
    }

pub returns-else-not-any : goal.returns-else-not-any
returns-else-not-any c = reached-all c.loop-x.invariant.reached (omega arith)

pub returns-else-not-any-2 : goal.returns-else-not-any-2
returns-else-not-any-2 c =
    let size = c.row_steps.auto.steps ∙ block-long c.requires in
    let e = c.min-e.ensures in
    let ran = reached-run c.row_steps.ensures size c.requires.inside c.loop-x.invariant.reached (omega arith) (omega arith) (omega arith)
    (omega arith) c.run-v.ensures.value c.run-v.ensures.out_after in
    reached-all ran refl
