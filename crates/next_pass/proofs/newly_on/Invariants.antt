-- `next_pass::newly_on` meets its contract.
-- Assumes nothing.
use Rattle.std.proofs.Common.{◌≡◌, ◌≤◌, length}
use Rattle.next_pass.specs.NextPass.{newly_on}
use Rattle.next_pass.proofs.newly_on.Given as goal

abbrev pub invariant-loop-i : goal.invariant-loop-i
invariant-loop-i l = record { within : l.i ≤ length l.before; count : l.n ≡ newly_on l.i l.before l.after }
