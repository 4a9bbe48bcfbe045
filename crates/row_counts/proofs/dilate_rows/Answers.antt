-- `row_counts::dilate_rows` meets its contract. The loop's invariant: the buffer holds the first y rows, and then what it held before.
-- Assumes nothing.
use Rattle.std.proofs.Common.{◌≡◌, ℕ, ◌+◌, ◌-◌, ◌*◌, ◌++◌, drop, ap, ◌∙◌, zero-mul, arith}
use Rattle.plane.specs.Plane.{rows_upto, plane_of}
use Rattle.plane.proofs.Plane.{table-length, put-row}
use Rattle.row_counts.specs.steps.Rows.{dilated_rows}
use Rattle.row_counts.proofs.RowLaws.{row_is}
use Rattle.row_counts.proofs.dilate_rows.Invariants.{row_of}
use Rattle.row_counts.proofs.dilate_rows.Goals as goal

pub loop-y-init : goal.loop-y-init
unfolding rows_upto
loop-y-init c = rw zero-mul

pub loop-y-preserved : goal.loop-y-preserved
loop-y-preserved c =
    let l = c.loop-y in
    let a = c.args in
    let mask = a.mask in
    let w = mask.size.w in
    let s = l.y * w in
    let q : s + w - s ≡ w = omega arith in
    let made = row_is mask.pixels.now mask.size.h w a.k l.y mask.whole c.loop-y-test.true in
    put-row (row_of mask.pixels.now w a.k) w (λ y. table-length _ 0 w) l.y _ a.out.now l.out _ l.invariant q
    (c.dilate_line.ensures ∙ rw c.row.ensures.value made)

pub returns : goal.returns
unfolding dilated_rows plane_of
returns c =
    let l = c.loop-y in
    let a = c.args in
    let w = a.mask.size.w in
    let e : l.y ≡ a.mask.size.h = omega arith in
    l.invariant ∙ ap (λ (y : ℕ). rows_upto y (row_of a.mask.pixels.now w a.k) ++ drop (y * w) a.out.now) e
