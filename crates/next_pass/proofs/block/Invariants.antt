-- `next_pass::block` meets its contract.
-- Assumes nothing.
use Rattle.std.proofs.Common.{◌≡◌}
use Rattle.plane.specs.Search.{count_below}
use Rattle.next_pass.proofs.Counts.{new}
use Rattle.next_pass.proofs.block.Given as goal

abbrev pub invariant-loop-i : goal.invariant-loop-i
invariant-loop-i l = l.n ≡ count_below l.i (new l.before l.after)
