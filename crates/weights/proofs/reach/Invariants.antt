-- `weights::reach` meets its contract.
-- Assumes nothing.
use Rattle.std.proofs.Common.{ℕ, List, get_or, ℤ}
use Rattle.plane.specs.Plane.{bit}
use Rattle.plane.proofs.InPlace.{Changed}
use Rattle.colour.specs.Settings.{on_of}
use Rattle.weights.proofs.reach.Given as goal

-- byte k of the mask
abbrev pub reached : List ℕ → ℤ → ℕ → ℕ
reached alpha threshold k = bit (on_of (get_or alpha k 0) threshold)

abbrev pub invariant-loop-i : goal.invariant-loop-i
invariant-loop-i l = Changed 0 (reached l.alpha l.threshold) l.initial.mask l.mask l.i
