-- `window::Around::search` meets its contract. The loop's invariant: the columns before i are searched.
-- Assumes nothing.
use Rattle.window.specs.steps.Window.{Searched}
use Rattle.window.proofs.Around.search.Given as goal

abbrev pub invariant-loop-i : goal.invariant-loop-i
invariant-loop-i l = Searched l.self.deep.pixels.now l.self.deep.size.h l.self.deep.size.w l.self.y l.self.x l.i l.best.far l.best.at
