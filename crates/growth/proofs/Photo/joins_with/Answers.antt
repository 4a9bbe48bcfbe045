-- `growth::Photo::joins_with` meets its contract.
-- Assumes nothing.
use Rattle.std.proofs.Common.{◌∙◌}
use Rattle.growth.specs.steps.Marks.{joins_with}
use Rattle.growth.proofs.Marks.{pixel-colour}
use Rattle.growth.proofs.Photo.joins_with.Goals as goal

pub returns : goal.returns
unfolding joins_with
returns c =
    let a = c.args in
    c.joins.ensures
    ∙ rw (c.difference-full.ensures, c.difference-mixed.ensures, c.pixel.ensures, c.pixel-2.ensures)
    (rw (pixel-colour a.self.colours.now a.b, pixel-colour a.self.colours.now a.i))
