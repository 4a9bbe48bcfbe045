-- `bounds::last_row` meets its contract. The loop's invariant: no row from y on has an on-pixel.
-- Assumes nothing.
use Rattle.std.proofs.Common.{◌-◌, Some, None, sym, ◌∙◌, arith}
use Rattle.plane.specs.Box.{row_has}
use Rattle.plane.proofs.Bounds.{none_from}
use Rattle.bounds.proofs.Rows.{last_told, row-part, row-some}
use Rattle.bounds.proofs.last_row.Goals as goal

pub returns-then-any : goal.returns-then-any
returns-then-any c =
    let mask = c.args.mask in
    let y = c.loop-y.y in
    let here = sym (row-some (row-part c.row.ensures.value c.row.ensures.len)) ∙ sym c.any.ensures ∙ c.if-any.true in
    last_told (row_has mask.pixels.now mask.size.w) mask.size.h (Some (y - 1))
    (record { inside = omega arith; holds = here; after = λ j l m. c.loop-y.invariant j (omega arith) m })

pub loop-y-preserved : goal.loop-y-preserved
loop-y-preserved c =
    let here = sym (row-some (row-part c.row.ensures.value c.row.ensures.len)) ∙ sym c.any.ensures ∙ c.if-any.false in
    none_from _ _ _ (omega arith) c.loop-y.invariant here

pub returns : goal.returns
returns c =
    let mask = c.args.mask in
    last_told (row_has mask.pixels.now mask.size.w) mask.size.h None (λ j m. c.loop-y.invariant j (omega arith) m)
