-- `nearest::nearest_distances` meets its contract.
-- Assumes nothing.
use Rattle.std.proofs.Common.{◌≡◌, ℕ, ◌-◌, ◌*◌, ◌<◌, ◌∙◌, take, refl, arith, length-take}
use Rattle.plane.proofs.Plane.{row_in}
use Rattle.nearest.specs.Nearest.{distance_plane}
use Rattle.nearest.proofs.Laws.{distance_most}
use Rattle.nearest.proofs.Stages.{swept-start}
use Rattle.nearest.proofs.Rows.{rows_next, rows_end, distance_is, at-front}
use Rattle.nearest.proofs.nearest_distances.Goals as goal

pub loop-y-init : goal.loop-y-init
loop-y-init c =
    let m = c.args.mask in
    let p = c.split_at_mut-plane.ensures in record {
      long = omega arith;
      lines_long = omega arith;
      swept = rw (p.front, p.back, c.area.ensures) (swept-start m.pixels.now m.size.h m.size.w c.below.new.work c.below.ensures);
      distances = λ j x l. absurd (omega arith);
    }

pub distances_line-requires-clause-low : goal.distances_line-requires-clause-low
distances_line-requires-clause-low c =
    let m = c.args.mask in
    let w = m.size.w in
    let fits = row_in c.loop-y.y m.size.h w c.loop-y-test.true in
    λ x l.
    (let g : x < w = omega (arith, length-take {A = ℕ}) in
    let n : 2 * w - w ≡ w = omega arith in
    let e = distance_is c.choose.ensures (take w c.choose.new.plane) (at-front _ w) w refl x g in
    rw (n, e) (omega (arith, distance_most m.pixels.now m.size.h w c.loop-y.y x c.loop-y-test.true g, c.requires.low)))

pub loop-y-preserved : goal.loop-y-preserved
loop-y-preserved c =
    let w = c.args.mask.size.w in
    let fits = row_in c.loop-y.y c.args.mask.size.h w c.loop-y-test.true in record {
      long = omega arith;
      lines_long = omega arith;
      swept = c.choose.ensures.next;
      distances =
          rows_next 0 _ w c.loop-y.out c.distances_line.new.out c.loop-y.y c.loop-y.invariant.distances (omega arith) (omega arith)
          (λ x g.
          c.distances_line.ensures x (omega arith) ∙ distance_is c.choose.ensures (take w c.choose.new.plane) (at-front _ w) _ (omega arith) x g);
    }

pub returns : goal.returns
unfolding distance_plane
returns c =
    rows_end 0 _ c.args.mask.size.w c.args.mask.size.h c.loop-y.out c.loop-y.y c.loop-y.invariant.distances c.loop-y-test.false (omega arith)
