-- `labels::rename` meets its contract. The loop's invariant: the labels before the index are renamed, and the others are as they were.
-- Assumes nothing.
use Rattle.std.proofs.Common.{◌≡◌, ℕ, ◌<◌, ◌≤◌, slice_index}
use Rattle.labels.proofs.rename.Given as goal

abbrev pub invariant-loop-l : goal.invariant-loop-l
invariant-loop-l l = record {
  renamed : (k : ℕ) → k < l.l-index → slice_index l.labels k ≡ slice_index l.numbers (slice_index l.initial.labels k);
  kept : (k : ℕ) → l.l-index ≤ k → slice_index l.labels k ≡ slice_index l.initial.labels k;
}
