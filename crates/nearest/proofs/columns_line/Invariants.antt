-- `nearest::columns_line` meets its contract.
-- Assumes nothing.
use Rattle.std.proofs.Common.{◌≡◌, ℕ, ◌<◌, List, length, get_or, pos}
use Rattle.nearest.specs.Nearest.{column_of}
use Rattle.nearest.specs.steps.Stages.{pixel_in}
use Rattle.nearest.proofs.columns_line.Given as goal

abbrev pub invariant-loop-x : goal.invariant-loop-x
invariant-loop-x l =
    (near : List ℕ) → length near ≡ length l.cols → (k : ℕ) → k < l.x
    → get_or l.cols k (pos 0) ≡ column_of (pixel_in near (get_or l.places k 0))
