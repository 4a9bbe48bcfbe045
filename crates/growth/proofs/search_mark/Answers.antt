-- `growth::search_mark` meets its contract.
-- Assumes nothing.
use Rattle.std.proofs.Common.{◌<◌, ◌*◌, ◌/◌, ◌%◌, sym, ap, ◌∙◌, arith}
use borrow.Author.Tests.{eq-eqb, ne_eqb}
use Rattle.plane.specs.Plane.{on, bit}
use Rattle.plane.proofs.Plane.{from_bool-bit}
use Rattle.window.proofs.Indices.{near-inside}
use Rattle.growth.specs.steps.Marks.{near_mark}
use Rattle.growth.proofs.search_mark.Goals as goal

-- a pixel that is not marked
pub returns-then-mark-eq0 : goal.returns-then-mark-eq0
unfolding on
returns-then-mark-eq0 c = rw (eq-eqb _ _ c.if-mark-eq0.true)

-- no deep pixel at all
pub returns-in_default : goal.returns-in_default
unfolding on near_mark
returns-in_default c = rw (ne_eqb _ _ c.if-mark-eq0.false, c.in_default.is)

pub joins_with-requires-clause-b_in_bounds : goal.joins_with-requires-clause-b_in_bounds
joins_with-requires-clause-b_in_bounds c =
    let m = c.in-Some.deep.mask in
    let i = c.args.i in
    let same = c.requires.one_size _ c.in-Some.is in
    let here : i < m.size.h * m.size.w = rw same c.requires.i_bound in
    let near = sym c.near_pixel.ensures ∙ c.in-Some-near_pixel.is in
    rw same at (near-inside m.pixels.now m.size.h m.size.w (i / m.size.w) (i % m.size.w) c.in-Some-near_pixel.b (omega arith) near)

-- a deep pixel that is near enough
pub returns-in-Some-near_pixel : goal.returns-in-Some-near_pixel
unfolding on near_mark
returns-in-Some-near_pixel c =
    rw (ne_eqb _ _ c.if-mark-eq0.false, c.in-Some.is, sym c.near_pixel.ensures ∙ c.in-Some-near_pixel.is)
    (c.from.ensures ∙ from_bool-bit _ ∙ ap bit c.joins_with.ensures)

-- none that is
pub returns-in-None : goal.returns-in-None
unfolding on near_mark
returns-in-None c =
    rw (ne_eqb _ _ c.if-mark-eq0.false, c.in-Some.is, sym c.near_pixel.ensures ∙ c.in-None.is)
