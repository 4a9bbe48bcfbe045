-- `pam::alpha` meets its contract.
-- Assumes nothing.
use Prim.Native.Nat.{ℕ, ◌+◌, ◌*◌}
use Rattle.plane.proofs.InPlace.{Changed}
use Rattle.pam.specs.Picture.{sample_at}
use Rattle.pam.proofs.alpha.Given as goal

abbrev pub invariant-loop-i : goal.invariant-loop-i
invariant-loop-i l = Changed 0 (λ (k : ℕ). sample_at l.input l.body (4 * k + 3)) l.initial.out l.out l.i
