-- `colour::half` meets its contract.
-- Assumes nothing.
use mathlib.Core.Path.{refl}
use lib.Ieee.{of_bits}
use Rattle.colour.specs.Number.{half_of}
use Rattle.colour.proofs.half.Goals as goal

pub returns : goal.returns
unfolding half_of of_bits
returns c = refl
