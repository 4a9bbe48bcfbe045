-- `nearest::nearest_planes` meets its contract.
-- Assumes nothing.
use Rattle.std.proofs.Common.{◌≡◌, ℕ, ◌*◌, length, pos}
use Rattle.nearest.specs.Nearest.{nearest, row_of, column_of}
use Rattle.nearest.specs.steps.Stages.{Swept}
use Rattle.nearest.proofs.Rows.{Rows}
use Rattle.nearest.proofs.nearest_planes.Given as goal

abbrev pub invariant-loop-y : goal.invariant-loop-y
invariant-loop-y l =
    let mask = l.mask.pixels.now in
    let h = l.mask.size.h in
    let w = l.mask.size.w in record {
      long : length l.plane ≡ h * w;
      swept : Swept mask h w l.y l.plane l.lines;
      rows : Rows (pos 0) (λ (j x : ℕ). row_of (nearest mask h w j x)) w l.rows l.y;
      cols : Rows (pos 0) (λ (j x : ℕ). column_of (nearest mask h w j x)) w l.cols l.y;
    }
