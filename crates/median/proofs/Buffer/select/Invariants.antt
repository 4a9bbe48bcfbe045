-- `median::Buffer::select` meets its contract. The invariant: the key of the value at place k lies from lo to hi.
-- Assumes nothing.
use Prim.Native.Nat.{◌-◌, ◌≤◌}
use Rattle.median.specs.Median.{placed}
use Rattle.median.specs.steps.Values.{floats_of}
use Rattle.median.proofs.Pattern.{key, one_bits}
use Rattle.median.proofs.Buffer.select.Given as goal

abbrev pub invariant-loop-lo : goal.invariant-loop-lo
invariant-loop-lo l = (l.lo ≤ key (placed (floats_of l.self.halves.now) l.k)) × (key (placed (floats_of l.self.halves.now) l.k) ≤ l.hi) × (l.hi ≤ one_bits)

abbrev pub decreases-loop-lo : goal.decreases-loop-lo
decreases-loop-lo l = l.hi - l.lo
