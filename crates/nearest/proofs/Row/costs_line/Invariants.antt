-- `nearest::Row::costs_line` meets its contract.
-- Assumes nothing.
use Rattle.std.proofs.Common.{◌≡◌, ℕ, ◌<◌, get_or}
use Rattle.nearest.specs.steps.Stages.{square_cost}
use Rattle.nearest.proofs.Row.costs_line.Given as goal

abbrev pub invariant-loop-x : goal.invariant-loop-x
invariant-loop-x l = (k : ℕ) → k < l.x → get_or l.costs k 0 ≡ square_cost l.self.y (get_or l.near k 0)
