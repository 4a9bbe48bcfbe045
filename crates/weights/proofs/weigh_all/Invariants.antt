-- `weights::weigh_all` meets its contract.
-- Assumes nothing.
use lib.Ieee.{nan}
use Rattle.outline.specs.Cut.{weight_at}
use Rattle.plane.proofs.InPlace.{Changed}
use Rattle.weights.proofs.weigh_all.Given as goal

abbrev pub invariant-loop-i : goal.invariant-loop-i
invariant-loop-i l = Changed nan (weight_at l.mask l.alpha) l.initial.out l.out l.i
