-- `colour::larger_of` meets its contract.
-- Assumes nothing.
use Rattle.colour.specs.Number.{larger}
use Rattle.colour.proofs.larger_of.Goals as goal

pub returns-then-x-y : goal.returns-then-x-y
unfolding larger
returns-then-x-y c = simp c.if-x-y.true

pub returns-else-x-y : goal.returns-else-x-y
unfolding larger
returns-else-x-y c = simp c.if-x-y.false
