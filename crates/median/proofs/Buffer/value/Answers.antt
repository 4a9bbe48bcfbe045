-- `median::Buffer::value` meets its contract.
-- Assumes nothing.
use Rattle.std.proofs.Common.{refl}
use Rattle.median.specs.steps.Values.{float_at}
use Rattle.median.proofs.Values.{bits-number}
use Rattle.median.proofs.Buffer.value.Goals as goal

pub float_from_bits-result : goal.float_from_bits-result
float_from_bits-result c = bits-number c.args.self.halves.now c.args.k _ c.args.self.in_range c.requires (rw (c.from-low.ensures, c.from-high.ensures) refl)

pub returns : goal.returns
unfolding float_at
returns c = rw (c.from-low.ensures, c.from-high.ensures)
