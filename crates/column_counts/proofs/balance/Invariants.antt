-- `column_counts::balance` meets its contract. The loop's invariant: the parts before x are balanced.
-- Assumes nothing.
use Rattle.std.proofs.Common.{ℕ, ◌+◌, get_or}
use Rattle.plane.proofs.InPlace.{Changed}
use Rattle.counts.specs.steps.Parts.{full_byte, rest_of}
use Rattle.column_counts.proofs.balance.Given as goal

abbrev pub invariant-loop-x : goal.invariant-loop-x
invariant-loop-x l = record {
  low : Changed 0 (λ (i : ℕ). full_byte (get_or l.initial.low i 0 + get_or l.initial.rest i 0)) l.initial.low l.low l.x;
  rest : Changed 0 (λ (i : ℕ). rest_of (get_or l.initial.low i 0 + get_or l.initial.rest i 0)) l.initial.rest l.rest l.x;
}
