-- `labels::LabelTrees::find` meets its contract. The loop's invariant: the trees have the roots that they had, and a has the root of l.
-- Assumes nothing.
use Rattle.std.proofs.Common.{◌≡◌, ℕ, ◌≤◌, get_or}
use Rattle.labels.specs.steps.Trees.{Forest}
use Rattle.labels.proofs.LabelTrees.find.Given as goal

abbrev pub invariant-loop-b : goal.invariant-loop-b
invariant-loop-b l = record {
  low : l.a ≤ l.fn.self.count;
  parent : l.b ≡ get_or l.parents l.a 0;
  trees : (rep : ℕ → ℕ) → Forest l.initial.parents l.fn.self.count rep → Forest l.parents l.fn.self.count rep × (rep l.a ≡ rep l.l);
}

abbrev pub decreases-loop-b : goal.decreases-loop-b
decreases-loop-b l = l.a
