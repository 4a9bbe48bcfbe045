-- `flood::settle` meets its contract.
-- Assumes nothing.
use Rattle.std.proofs.Common.{◌≡◌, ℕ, ◌<◌, ◌≤◌, ◌==◌, slice_index}
use Rattle.plane.specs.Plane.{bit}
use Rattle.flood.proofs.settle.Given as goal

abbrev pub invariant-loop-b : goal.invariant-loop-b
invariant-loop-b l = record {
  marked : (k : ℕ) → k < l.b-index → slice_index l.out k ≡ bit (slice_index l.initial.out k == 2);
  kept : (k : ℕ) → l.b-index ≤ k → slice_index l.out k ≡ slice_index l.initial.out k;
}
