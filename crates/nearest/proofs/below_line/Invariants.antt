-- `nearest::below_line` meets its contract.
-- Assumes nothing.
use Rattle.std.proofs.Common.{◌≡◌, ℕ, ◌<◌, get_or, cond}
use Rattle.plane.specs.Plane.{on}
use Rattle.nearest.proofs.below_line.Given as goal

abbrev pub invariant-loop-x : goal.invariant-loop-x
invariant-loop-x l = (k : ℕ) → k < l.x → get_or l.row k 0 ≡ cond (on (get_or l.mask k 0)) l.y (get_or l.next k 0)
