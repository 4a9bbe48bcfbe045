-- `window::Around::nearest_row` meets its contract. The loop's invariant: column i has no on-pixel less than e rows from row y.
-- Assumes nothing.
use Rattle.window.proofs.Searching.{Clear}
use Rattle.window.proofs.Around.nearest_row.Given as goal

abbrev pub invariant-loop-e : goal.invariant-loop-e
invariant-loop-e l = Clear l.self.deep.pixels.now l.self.deep.size.h l.self.deep.size.w l.self.y l.i l.e
