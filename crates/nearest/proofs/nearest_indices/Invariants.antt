-- `nearest::nearest_indices` meets its contract.
-- Assumes nothing.
use Rattle.std.proofs.Common.{◌≡◌, ℕ, ◌*◌, length}
use Rattle.plane.specs.Plane.{index_of}
use Rattle.nearest.specs.Nearest.{nearest}
use Rattle.nearest.specs.steps.Stages.{Swept}
use Rattle.nearest.proofs.Rows.{Rows}
use Rattle.nearest.proofs.nearest_indices.Given as goal

abbrev pub invariant-loop-y : goal.invariant-loop-y
invariant-loop-y l =
    let mask = l.mask.pixels.now in
    let h = l.mask.size.h in
    let w = l.mask.size.w in record {
      long : length l.plane ≡ h * w;
      swept : Swept mask h w l.y l.plane l.lines;
      indices : Rows 0 (λ (j x : ℕ). index_of w (nearest mask h w j x)) w l.plane l.y;
    }
