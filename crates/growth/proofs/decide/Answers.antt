-- `growth::decide` meets its contract.
-- Assumes nothing.
use Rattle.std.proofs.Common.{◌≡◌, ◌*◌, ◌-◌, length, sym, ap, ◌∙◌, arith}
use Rattle.plane.specs.Plane.{table}
use Rattle.window.proofs.Indices.{indices-inside}
use Rattle.growth.proofs.Marks.{near-searched, decided-last, decided-all}
use Rattle.growth.proofs.decide.Goals as goal

pub decide_waiting-requires-clause-inside : goal.decide_waiting-requires-clause-inside
decide_waiting-requires-clause-inside c =
    let p = c.args.photo in
    let n : length c.args.marks.now - 0 ≡ p.size.h * p.size.w = omega (arith, c.requires.marks_len) in
    rw (n, c.nearest_indices-then-search.ensures) (indices-inside c.args.shallow.now p.size.h p.size.w p.size.sides.some_columns)

-- the waiting pixels are decided by their nearest shallow pixels
pub returns-then-search : goal.returns-then-search
returns-then-search c =
    let a = c.args in
    let p = a.photo in
    let h = p.size.h in
    let w = p.size.w in
    let n : length a.marks.now - 0 ≡ h * w = omega (arith, c.requires.marks_len) in
    let shallow = rw (sym n) at c.nearest_indices-then-search.ensures in
    let near = near-searched _ _ c.then_some-2.ensures (rw c.requires.deep_len at c.any-some.ensures) in
    c.decide_waiting.ensures
    ∙ decided-last p.colours.now p.reference _ a.deep.now a.shallow.now h w p.size.sides.some_columns near a.marks.now _ _ shallow
    (c.search.ensures.marks_after ∙ ap (table _ 0) c.requires.marks_len)

-- no pixel waits
pub returns-else-search : goal.returns-else-search
returns-else-search c =
    let a = c.args in
    let p = a.photo in
    let h = p.size.h in
    let w = p.size.w in
    let none = rw c.requires.marks_len at (sym c.search.ensures.value ∙ c.if-search.false) in
    let near = near-searched _ _ c.then_some-2.ensures (rw c.requires.deep_len at c.any-some.ensures) in
    c.search.ensures.marks_after
    ∙ ap (table _ 0) c.requires.marks_len
    ∙ decided-all p.colours.now p.reference _ a.deep.now a.shallow.now h w p.size.sides.some_columns near a.marks.now none
