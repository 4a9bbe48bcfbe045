-- `median::Buffer::at_most` meets its contract. The invariant is of what is left: the count so far and that of the rest are that of all.
-- Assumes nothing.
use Rattle.std.proofs.Common.{◌≡◌, ◌+◌, ◌≤◌, drop}
use Rattle.median.specs.steps.Values.{floats_of}
use Rattle.median.specs.steps.Select.{at_most}
use Rattle.median.proofs.Buffer.at_most.Given as goal

abbrev pub invariant-loop-i : goal.invariant-loop-i
invariant-loop-i l = record {
  few : l.n ≤ l.i;
  so_far : at_most l.t (floats_of l.self.halves.now) ≡ l.n + at_most l.t (drop l.i (floats_of l.self.halves.now));
}
