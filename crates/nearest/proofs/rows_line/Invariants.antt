-- `nearest::rows_line` meets its contract.
-- Assumes nothing.
use Rattle.std.proofs.Common.{◌≡◌, ℕ, ◌<◌, get_or, pos}
use Rattle.nearest.specs.Nearest.{row_of}
use Rattle.nearest.specs.steps.Stages.{pixel_in}
use Rattle.nearest.proofs.rows_line.Given as goal

abbrev pub invariant-loop-x : goal.invariant-loop-x
invariant-loop-x l = (k : ℕ) → k < l.x → get_or l.rows k (pos 0) ≡ row_of (pixel_in l.near (get_or l.places k 0))
