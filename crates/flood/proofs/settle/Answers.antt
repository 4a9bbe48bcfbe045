-- `flood::settle` meets its contract.
-- Assumes nothing.
use Rattle.std.proofs.Common.{ℕ, ◌==◌, length, slice_index, arith}
use Rattle.plane.specs.Plane.{bit}
use Rattle.plane.proofs.Plane.{table_is}
use Rattle.flood.specs.steps.Flood.{marked}
use Rattle.flood.proofs.settle.Goals as goal

pub returns : goal.returns
unfolding marked
returns c =
    let m = c.args.out.now in
    let l = c.loop-b in
    table_is (λ (i : ℕ). bit (slice_index m i == 2)) (length m) l.out 0 l.auto.out (λ i h. l.invariant.marked i (omega arith))
