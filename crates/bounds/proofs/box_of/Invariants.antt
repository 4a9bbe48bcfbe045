-- `bounds::box_of` meets its contract. The loop's invariant: y0, x0 and x1 are the edges of the rows before y.
-- Assumes nothing.
use Rattle.bounds.proofs.Rows.{Edges}
use Rattle.bounds.proofs.box_of.Given as goal

abbrev pub invariant-loop-y : goal.invariant-loop-y
invariant-loop-y l = Edges l.mask.pixels.now l.mask.size.w l.y l.y0 l.x0 l.x1
