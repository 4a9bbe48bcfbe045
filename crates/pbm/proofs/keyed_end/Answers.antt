-- `pbm::keyed_end` meets its contract.
-- Assumes nothing.
use Rattle.text.proofs.Written.{writes-more, writes_as}
use Rattle.pbm.specs.Text.{keyed_end}
use Rattle.pbm.proofs.keyed_end.Goals as goal

pub returns : goal.returns
unfolding keyed_end
returns c =
    writes_as (rw c.bit_byte.ensures) (writes-more c.copy.ensures (writes-more c.put.ensures c.put-2.ensures))
