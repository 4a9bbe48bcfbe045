-- `pbm::pixel` meets its contract.
-- Assumes nothing.
use mathlib.Core.Path.{sym, ◌∙◌}
use Rattle.plane.specs.Plane.{on}
use Rattle.plane.specs.Mask.{is_on}
use Rattle.text.proofs.Written.{writes-more, writes_as}
use Rattle.pbm.specs.Text.{pixel_text}
use Rattle.pbm.proofs.pixel.Goals as goal

pub returns-then-ends_line : goal.returns-then-ends_line
unfolding pixel_text is_on on
returns-then-ends_line c =
    let ends = sym c.ends_line.ensures ∙ c.if-ends_line.true in
    writes_as (rw (c.bit_byte.ensures, ends)) (writes-more c.put.ensures c.put-then-ends_line.ensures)

pub returns-else-ends_line : goal.returns-else-ends_line
unfolding pixel_text is_on on
returns-else-ends_line c =
    let goes_on = sym c.ends_line.ensures ∙ c.if-ends_line.false in writes_as (rw (c.bit_byte.ensures, goes_on)) c.put.ensures
