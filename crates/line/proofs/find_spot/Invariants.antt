-- `line::find_spot` meets its contract: the test says whether the top is as good as u at its own start.
-- Assumes nothing.
use Rattle.std.proofs.Common.{ℕ, ◌≤◌, ◌<◌, slice_index}
use Rattle.line.specs.steps.Envelope.{Stays}
use Rattle.line.proofs.find_spot.Given as goal

abbrev pub invariant-loop-top : goal.invariant-loop-top
invariant-loop-top l = (q : ℕ) → l.top ≤ q → q < l.count → Stays l.costs (slice_index l.stack) (slice_index l.out) l.u q → ⊥
