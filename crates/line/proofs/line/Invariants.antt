-- `line::line` meets its contract.
-- Assumes nothing.
use Rattle.std.proofs.Common.{◌-◌, length}
use Rattle.line.specs.steps.Run.{Done}
use Rattle.line.proofs.line.Given as goal

abbrev pub invariant-loop-x : goal.invariant-loop-x
invariant-loop-x l = Done l.costs l.out l.x

abbrev pub decreases-loop-x : goal.decreases-loop-x
decreases-loop-x l = length l.costs - l.x
