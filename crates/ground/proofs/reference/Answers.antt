-- `ground::reference` meets its contract.
-- Assumes nothing.
use Rattle.colour.proofs.Range.{rgb-from}
use Rattle.outline.specs.Border.{reference_of}
use Rattle.ground.proofs.reference.Goals as goal

pub invariant_of-result : goal.invariant_of-result
invariant_of-result c =
    record { in_range = rgb-from _ c.channel-r.ensures.in_range c.channel-g.ensures.in_range c.channel-b.ensures.in_range }

pub returns : goal.returns
unfolding reference_of
returns c = rw (c.channel-r.ensures.value, c.channel-g.ensures.value, c.channel-b.ensures.value)
