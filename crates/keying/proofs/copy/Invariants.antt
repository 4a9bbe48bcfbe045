-- `keying::copy` meets its contract. The loop's invariant: the pixels before i are copied.
-- Assumes nothing.
use Rattle.std.proofs.Common.{ℕ, get_or}
use Rattle.plane.proofs.InPlace.{Changed}
use Rattle.keying.proofs.copy.Given as goal

abbrev pub invariant-loop-i : goal.invariant-loop-i
invariant-loop-i l = Changed 0 (λ (k : ℕ). get_or l.from k 0) l.initial.to l.to l.i
