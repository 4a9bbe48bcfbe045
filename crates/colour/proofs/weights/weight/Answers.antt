-- `colour::weights::weight` meets its contract: antt computes v / 255, rounded once, for each of the 256 entries and compares it
-- with the table's.
-- Assumes nothing.
use native.Mathlib.Omega.{arith}
use lib.Ieee.{of_bits, div, of_int}
use Rattle.colour.specs.Weight.{weight_of}
use Rattle.colour.proofs.Bytes.{weights, weights-at}
use Rattle.colour.proofs.weights.weight.Goals as goal

pub returns : goal.returns
unfolding weights weight_of of_bits div of_int
returns c = rw c.from.ensures (weights-at c.args.v (omega arith))
