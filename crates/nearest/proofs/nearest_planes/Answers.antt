-- `nearest::nearest_planes` meets its contract.
-- Assumes nothing.
use Rattle.std.proofs.Common.{ℕ, ◌∙◌, ap, pos, take, arith, length-take}
use Rattle.plane.proofs.Plane.{row_in}
use Rattle.nearest.specs.Nearest.{row_of, column_of, rows_plane, columns_plane}
use Rattle.nearest.proofs.Stages.{swept-start}
use Rattle.nearest.proofs.Rows.{rows_next, rows_end, chosen_in, pixel_is, at-front}
use Rattle.nearest.proofs.nearest_planes.Goals as goal

pub loop-y-init : goal.loop-y-init
loop-y-init c =
    let m = c.args.mask in
    let p = c.split_at_mut-plane.ensures in record {
      long = omega arith;
      swept = rw (p.front, p.back, c.area.ensures) (swept-start m.pixels.now m.size.h m.size.w c.below.new.work c.below.ensures);
      rows = λ j x l. absurd (omega arith);
      cols = λ j x l. absurd (omega arith);
    }

pub rows_line-requires-clause-chosen : goal.rows_line-requires-clause-chosen
rows_line-requires-clause-chosen c =
    let w = c.args.mask.size.w in
    let fits = row_in c.loop-y.y c.args.mask.size.h w c.loop-y-test.true in
    λ x l. chosen_in c.choose.ensures (take w c.choose.new.plane) (at-front _ w) x (omega (arith, length-take {A = ℕ}))

pub loop-y-preserved : goal.loop-y-preserved
loop-y-preserved c =
    let w = c.args.mask.size.w in
    let fits = row_in c.loop-y.y c.args.mask.size.h w c.loop-y-test.true in
    let inv = c.loop-y.invariant in
    let right = pixel_is c.choose.ensures (take w c.choose.new.plane) (at-front _ w) in record {
      long = omega arith;
      swept = c.choose.ensures.next;
      rows =
          rows_next (pos 0) _ w c.loop-y.rows c.rows_line.new.rows c.loop-y.y inv.rows (omega arith) (omega arith)
          (λ x g. c.rows_line.ensures x (omega arith) ∙ ap row_of (right x g));
      cols =
          rows_next (pos 0) _ w c.loop-y.cols c.columns_line.new.cols c.loop-y.y inv.cols (omega arith) (omega arith)
          (λ x g. c.columns_line.ensures _ (omega (arith, length-take {A = ℕ})) x (omega arith) ∙ ap column_of (right x g));
    }

pub returns-clause-rows_after : goal.returns-clause-rows_after
unfolding rows_plane
returns-clause-rows_after c =
    rows_end (pos 0) _ c.args.mask.size.w c.args.mask.size.h c.loop-y.rows c.loop-y.y c.loop-y.invariant.rows c.loop-y-test.false (omega arith)

pub returns-clause-cols_after : goal.returns-clause-cols_after
unfolding columns_plane
returns-clause-cols_after c =
    rows_end (pos 0) _ c.args.mask.size.w c.args.mask.size.h c.loop-y.cols c.loop-y.y c.loop-y.invariant.cols c.loop-y-test.false (omega arith)
