-- `nearest::Row::nearer_line` meets its contract.
-- Assumes nothing.
use Rattle.std.proofs.Common.{◌≡◌, ℕ, ◌≤◌, ◌<◌, get_or}
use Rattle.nearest.specs.steps.Stages.{nearer}
use Rattle.nearest.proofs.Row.nearer_line.Given as goal

abbrev pub invariant-loop-x : goal.invariant-loop-x
invariant-loop-x l =
    ((k : ℕ) → k < l.x → get_or l.near k 0 ≡ nearer l.self.y (get_or l.row k 0) (get_or l.initial.near k 0))
    × ((k : ℕ) → l.x ≤ k → get_or l.near k 0 ≡ get_or l.initial.near k 0)
