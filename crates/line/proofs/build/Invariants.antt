-- `line::build` meets its contract.
-- Assumes nothing.
use Rattle.std.proofs.Common.{◌≤◌, ◌-◌, length, slice_index}
use Rattle.line.specs.steps.Envelope.{Stack}
use Rattle.line.proofs.build.Given as goal

abbrev pub invariant-loop-u : goal.invariant-loop-u
invariant-loop-u l = (l.u ≤ length l.costs) × Stack l.costs (slice_index l.stack) (slice_index l.out) l.u l.count

abbrev pub decreases-loop-u : goal.decreases-loop-u
decreases-loop-u l = length l.costs - l.u
