-- `refusals::rgb_ok` meets its contract.
-- Assumes nothing.
use Rattle.colour.specs.Colour.{rgb_ok}
use Rattle.refusals.proofs.rgb_ok.Goals as goal

pub returns : goal.returns
unfolding rgb_ok
returns c = rw (c.colour_ok.ensures, c.colour_ok-2.ensures, c.colour_ok-3.ensures)
