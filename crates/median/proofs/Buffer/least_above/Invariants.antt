-- `median::Buffer::least_above` meets its contract. The values from i on are read.
-- Assumes nothing.
use Rattle.std.proofs.Common.{◌≡◌, drop}
use Rattle.median.specs.steps.Values.{floats_of}
use Rattle.median.specs.steps.Select.{least_above}
use Rattle.median.proofs.Buffer.least_above.Given as goal

abbrev pub invariant-loop-i : goal.invariant-loop-i
invariant-loop-i l = l.least ≡ least_above l.t (drop l.i (floats_of l.self.halves.now))
