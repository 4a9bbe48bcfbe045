-- `pbm::bit_byte` meets its contract.
-- Assumes nothing.
use Rattle.pbm.specs.Text.{bit_byte}
use Rattle.pbm.proofs.bit_byte.Goals as goal

pub returns-then-t : goal.returns-then-t
unfolding bit_byte
returns-then-t c = rw c.if-t.true

pub returns-else-t : goal.returns-else-t
unfolding bit_byte
returns-else-t c = rw c.if-t.false
