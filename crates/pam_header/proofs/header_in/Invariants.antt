-- `pam_header::header_in` meets its contract.
-- Assumes nothing.
use mathlib.Core.Path.{◌≡◌}
use Prim.Native.Nat.{◌-◌, ◌≤◌}
use lib.ListN.{length}
use Rattle.std.proofs.Common.{Some}
use Rattle.pam_header.specs.Header.{lines_of, header_by}
use Rattle.pam_header.proofs.Lines.{read_from}
use Rattle.pam_header.proofs.header_in.Given as goal

abbrev pub invariant-loop-end : goal.invariant-loop-end
invariant-loop-end l =
    (length l.rest ≤ length l.front)
    × (read_from (Some l.seen) (length l.front - length l.rest) (lines_of l.rest) ≡ header_by (lines_of l.front))

abbrev pub decreases-loop-end : goal.decreases-loop-end
decreases-loop-end l = length l.rest
