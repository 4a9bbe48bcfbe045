-- `colour::plus_zero` meets its contract.
-- Assumes nothing.
use lib.Ieee.{of_bits}
use Rattle.colour.specs.Number.{plus_zero}
use Rattle.colour.proofs.plus_zero.Goals as goal

pub returns-then-x : goal.returns-then-x
unfolding plus_zero of_bits
returns-then-x c = simp c.if-x.true

pub returns-else-x : goal.returns-else-x
unfolding plus_zero of_bits
returns-else-x c = simp c.if-x.false
