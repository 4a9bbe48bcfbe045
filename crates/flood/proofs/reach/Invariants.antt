-- `flood::reach` meets its contract.
-- Assumes nothing.
use Rattle.std.proofs.Common.{◌+◌}
use Rattle.plane.specs.steps.Buffer.{SameBuffer}
use Rattle.flood.specs.steps.Flood.{state_of, waiting}
use Rattle.flood.proofs.Reached.{Going}
use Rattle.flood.proofs.reach.Given as goal

abbrev pub invariant-loop-stack : goal.invariant-loop-stack
invariant-loop-stack l = record {
  going : Going l.fn.out l.size.h l.size.w (state_of l.stack l.out);
  same_buffer : SameBuffer l.initial.stack.pixels l.stack.pixels;
}

abbrev pub decreases-loop-stack : goal.decreases-loop-stack
decreases-loop-stack l = l.stack.top + waiting l.out
