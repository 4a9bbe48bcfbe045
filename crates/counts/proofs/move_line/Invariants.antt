-- `counts::move_line` meets its contract. The loop's invariant: the bytes before x are changed.
-- Assumes nothing.
use Rattle.std.proofs.Common.{ℕ, get_or}
use Rattle.plane.specs.Mask.{is_on}
use Rattle.plane.proofs.InPlace.{Changed}
use Rattle.counts.specs.steps.Parts.{changed}
use Rattle.counts.proofs.move_line.Given as goal

abbrev pub invariant-loop-x : goal.invariant-loop-x
invariant-loop-x l =
    Changed 0 (λ (i : ℕ). changed (get_or l.initial.counts i 0) (is_on l.line i) l.fn.change) l.initial.counts l.counts l.x
