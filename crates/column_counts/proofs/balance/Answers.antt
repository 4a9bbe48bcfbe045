-- `column_counts::balance` meets its contract. The loop's invariant: the parts before x are balanced.
-- Assumes nothing.
use Rattle.std.proofs.Common.{ap, ◌∙◌, le_refl, arith}
use Rattle.plane.specs.Plane.{table}
use Rattle.plane.proofs.InPlace.{changed-none, changed-more, changed-end}
use Rattle.column_counts.specs.steps.Columns.{balanced_low, balanced_rest}
use Rattle.column_counts.proofs.balance.Goals as goal

pub loop-x-init : goal.loop-x-init
loop-x-init c = record { low = changed-none 0 _ _; rest = changed-none 0 _ _ }

pub overflow_add-n : goal.overflow_add-n
overflow_add-n c =
    let l = c.loop-x in
    omega (
      arith,
      c.from.ensures,
      l.invariant.low.back l.x (le_refl l.x),
      l.invariant.rest.back l.x (le_refl l.x),
      c.requires.small l.x (omega arith),
    )

pub loop-x-preserved : goal.loop-x-preserved
loop-x-preserved c =
    let l = c.loop-x in
    let low = l.invariant.low.back l.x (le_refl l.x) in
    let rest = l.invariant.rest.back l.x (le_refl l.x) in
    record {
      low = changed-more 0 _ _ l.low l.x _ l.invariant.low (omega arith) (omega (arith, c.from.ensures, c.min-b.ensures));
      rest = changed-more 0 _ _ l.rest l.x _ l.invariant.rest (omega (arith, c.requires.size)) (omega (arith, c.from.ensures, c.min-b.ensures));
    }

pub returns : goal.returns
unfolding balanced_low balanced_rest
returns c =
    let l = c.loop-x in
    record {
      low_after = changed-end 0 _ _ l.low l.x l.invariant.low (omega arith);
      rest_after = changed-end 0 _ _ l.rest l.x l.invariant.rest (omega (arith, c.requires.size)) ∙ ap (table _ 0) c.requires.size;
    }
