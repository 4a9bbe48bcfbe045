-- `geometry::fill::colours_from` meets its contract. The loop's invariant: the pixels before i are right, and the rest is as it was.
-- Assumes nothing.
use mathlib.Core.Path.{◌≡◌}
use mathlib.Core.List.{◌++◌}
use Prim.Native.Nat.{◌*◌}
use lib.ListN.{length, drop}
use Rattle.plane.specs.Plane.{rows_upto}
use Rattle.geometry.proofs.Filling.{colour_row}
use Rattle.geometry.proofs.fill.colours_from.Given as goal

abbrev pub invariant-loop-i : goal.invariant-loop-i
invariant-loop-i l =
    (length l.out ≡ length l.initial.out) × (l.out ≡ rows_upto l.i (colour_row l.colours l.fn.size l.indices) ++ drop (l.i * 3) l.initial.out)
