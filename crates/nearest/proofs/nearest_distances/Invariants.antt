-- `nearest::nearest_distances` meets its contract.
-- Assumes nothing.
use Rattle.std.proofs.Common.{◌≡◌, ◌*◌, ◌≤◌, length}
use Rattle.nearest.specs.Nearest.{distance}
use Rattle.nearest.specs.steps.Stages.{Swept}
use Rattle.nearest.proofs.Rows.{Rows}
use Rattle.nearest.proofs.nearest_distances.Given as goal

abbrev pub invariant-loop-y : goal.invariant-loop-y
invariant-loop-y l =
    let mask = l.mask.pixels.now in
    let h = l.mask.size.h in
    let w = l.mask.size.w in record {
      long : length l.plane ≡ h * w;
      lines_long : 3 * w ≤ length l.lines;
      swept : Swept mask h w l.y l.plane l.lines;
      distances : Rows 0 (distance mask h w) w l.out l.y;
    }
