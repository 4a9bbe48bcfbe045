-- `growth::last_mark` meets its contract.
-- Assumes nothing.
use Rattle.std.proofs.Common.{ap, ◌∙◌}
use borrow.Author.Tests.{eq-eqb}
use Rattle.plane.specs.Plane.{bit}
use Rattle.plane.proofs.Plane.{from_bool-bit}
use Rattle.growth.proofs.last_mark.Goals as goal

pub returns : goal.returns
returns c = rw (eq-eqb _ _ c.if-mark-ne-WAITS.false) (c.from.ensures ∙ from_bool-bit _ ∙ ap bit c.joins_with.ensures)
