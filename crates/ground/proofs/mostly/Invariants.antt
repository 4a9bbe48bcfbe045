-- `ground::mostly` meets its contract. The loop's invariant: `count` and what of the rest of the border list is on make the whole.
-- Assumes nothing.
use Rattle.std.proofs.Common.{◌≡◌, ◌+◌, ◌≤◌, drop}
use Rattle.outline.specs.Border.{border_list}
use Rattle.outline.specs.Ground.{count_on}
use Rattle.ground.proofs.mostly.Given as goal

abbrev pub invariant-loop-k : goal.invariant-loop-k
invariant-loop-k l =
    let border = border_list l.mask.size.h l.mask.size.w in
    record {
      few : l.count ≤ l.k;
      so_far : count_on l.mask.pixels.now border ≡ l.count + count_on l.mask.pixels.now (drop l.k border);
    }
