-- `plane::complement` meets its contract.
-- Assumes nothing.
use Rattle.std.proofs.Common.{ℕ, not}
use Rattle.plane.specs.Plane.{bit}
use Rattle.plane.specs.Mask.{is_on}
use Rattle.plane.proofs.InPlace.{Changed}
use Rattle.plane.proofs.complement.Given as goal

abbrev pub invariant-loop-m : goal.invariant-loop-m
invariant-loop-m l = Changed 0 (λ (k : ℕ). bit (not (is_on l.initial.mask k))) l.initial.mask l.mask l.m-index
