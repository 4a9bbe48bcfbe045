-- `colour::joins` meets its contract.
-- Assumes nothing.
use mathlib.Core.Path.{refl}
use lib.Ieee.{of_bits}
use Rattle.colour.specs.Join.{joins_of}
use Rattle.colour.proofs.joins.Goals as goal

pub returns : goal.returns
unfolding joins_of of_bits
returns c = refl
