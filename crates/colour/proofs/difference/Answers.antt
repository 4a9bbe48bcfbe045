-- `colour::difference` meets its contract.
-- Assumes nothing.
use Rattle.colour.specs.Colour.{difference_of}
use Rattle.colour.proofs.difference.Goals as goal

pub returns : goal.returns
unfolding difference_of
returns c = cc
