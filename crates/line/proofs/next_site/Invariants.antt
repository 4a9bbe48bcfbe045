-- `line::next_site` meets its contract.
-- Assumes nothing.
use Rattle.line.specs.steps.Envelope.{Skips}
use Rattle.line.proofs.next_site.Given as goal

abbrev pub invariant-loop-k : goal.invariant-loop-k
invariant-loop-k l = Skips l.costs l.x l.k
