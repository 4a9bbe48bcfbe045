-- `nearest::below` meets its contract.
-- Assumes nothing.
use Rattle.std.proofs.Common.{◌≡◌, ◌*◌}
use Rattle.nearest.specs.steps.Stages.{BelowFrom}
use Rattle.nearest.proofs.below.Given as goal

abbrev pub invariant-loop-y : goal.invariant-loop-y
invariant-loop-y l = (l.at ≡ l.y * l.mask.size.w) × BelowFrom l.mask.pixels.now l.mask.size.h l.mask.size.w l.y l.work
