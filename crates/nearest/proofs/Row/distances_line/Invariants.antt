-- `nearest::Row::distances_line` meets its contract.
-- Assumes nothing.
use Rattle.std.proofs.Common.{◌≡◌, ℕ, ◌<◌, get_or}
use Rattle.nearest.specs.steps.Stages.{distance_in}
use Rattle.nearest.proofs.Row.distances_line.Given as goal

abbrev pub invariant-loop-x : goal.invariant-loop-x
invariant-loop-x l = (k : ℕ) → k < l.x → get_or l.out k 0 ≡ distance_in l.costs l.self.y k (get_or l.places k 0)
