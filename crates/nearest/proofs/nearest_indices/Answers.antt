-- `nearest::nearest_indices` meets its contract.
-- Assumes nothing.
use Rattle.std.proofs.Common.{◌≡◌, ℕ, ◌+◌, ◌-◌, ◌*◌, ◌∙◌, ap, length, take, arith, length-take}
use Rattle.std.proofs.lemmas.List.{take_at}
use Rattle.plane.specs.Plane.{index_of}
use Rattle.plane.proofs.Plane.{row_in}
use Rattle.line.proofs.Part.{part}
use Rattle.nearest.specs.steps.Indices.{indices_plane}
use Rattle.nearest.proofs.Stages.{swept-start}
use Rattle.nearest.proofs.Rows.{rows_next, rows_end, rows_kept, swept-kept, chosen_in, pixel_is, at-own}
use Rattle.nearest.proofs.nearest_indices.Goals as goal

pub loop-y-init : goal.loop-y-init
loop-y-init c =
    let m = c.args.mask in
    let p = c.split_at_mut-plane.ensures in record {
      long = omega arith;
      swept = rw (p.front, p.back, c.area.ensures) (swept-start m.pixels.now m.size.h m.size.w c.below.new.work c.below.ensures);
      indices = λ j x l. absurd (omega arith);
    }

pub index_line-requires-clause-chosen : goal.index_line-requires-clause-chosen
index_line-requires-clause-chosen c =
    let w = c.args.mask.size.w in
    let start = c.loop-y.y * w in
    let fits = row_in c.loop-y.y c.args.mask.size.h w c.loop-y-test.true in
    λ x l. chosen_in c.choose.ensures (part c.choose.new.plane start (start + w - start)) (at-own _ start w) x (omega arith)

pub loop-y-preserved : goal.loop-y-preserved
loop-y-preserved c =
    let w = c.args.mask.size.w in
    let y = c.loop-y.y in
    let start = y * w in
    let fits = row_in y c.args.mask.size.h w c.loop-y-test.true in
    let plane = c.choose.new.plane in
    let row = c.index_line.new.row in
    let long : length (take w c.choose.new.lines) ≡ w = omega (arith, length-take {A = ℕ}) in
    let wide : length (c.index_line.new.row) ≡ w = omega arith in
    let right = pixel_is c.choose.ensures (part plane start (start + w - start)) (at-own _ start w) in record {
      long = omega arith;
      swept = swept-kept y plane row c.choose.ensures.next (omega arith) wide;
      indices =
          rows_next 0 _ w plane row y (rows_kept 0 _ w c.loop-y.plane plane y c.choose.ensures.before c.loop-y.invariant.indices) (omega arith) wide
          (λ x g. c.index_line.ensures x (omega arith) ∙ rw long (ap (index_of w) (right x g)));
    }

pub returns : goal.returns
unfolding indices_plane
returns c =
    let n = c.args.mask.size.h * c.args.mask.size.w in
    take_at c.loop-y.plane _ n (omega arith)
    ∙ rows_end 0 _ c.args.mask.size.w c.args.mask.size.h c.loop-y.plane c.loop-y.y c.loop-y.invariant.indices c.loop-y-test.false (omega arith)
