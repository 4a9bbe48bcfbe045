-- `colour::colour_ok` meets its contract.
-- Assumes nothing.
use mathlib.Core.Path.{refl}
use lib.Ieee.{of_bits}
use Rattle.colour.specs.Colour.{colour_ok}
use Rattle.colour.proofs.colour_ok.Goals as goal

pub returns : goal.returns
unfolding colour_ok of_bits
returns c = refl
