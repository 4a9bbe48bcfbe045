-- `bounds::box_of` meets its contract. The loop's invariant: y0, x0 and x1 are the edges of the rows before y.
-- Assumes nothing.
use Rattle.std.proofs.Common.{◌≡◌, ℕ, ◌+◌, ◌-◌, refl, ◌∙◌, arith, length-take}
use Rattle.plane.specs.Plane.{on_at}
use Rattle.plane.specs.Box.{row_has, box_of}
use Rattle.plane.proofs.Bounds.{last-most, lesser-min}
use Rattle.bounds.proofs.Rows.{last-or-zero, row-part, row_first, row_last, Edges, no_edges, edges_none, edges_some, left_in, right-in}
use Rattle.bounds.proofs.box_of.Goals as goal
use Rattle.bounds.proofs.box_of.Goals.{then-x0-w, else-x0-w}

pub loop-y-init : goal.loop-y-init
loop-y-init c = no_edges _ _

pub slice_bounds-first-end : goal.slice_bounds-first-end
slice_bounds-first-end c = rw length-take (omega (arith, c.row-row.ensures.len, left_in c.loop-y.invariant))

pub slice_bounds-last-count : goal.slice_bounds-last-count
slice_bounds-last-count c = omega (arith, c.row-row.ensures.len, right-in c.loop-y.invariant)

pub slice_bounds-last-start : goal.slice_bounds-last-start
slice_bounds-last-start c = omega (arith, c.row-row.ensures.len, right-in c.loop-y.invariant)

pub overflow_add-x1 : goal.overflow_add-x1
overflow_add-x1 c =
    let l = c.loop-y in
    let mask = c.args.mask in
    let w = mask.size.w in
    let row = row-part c.row-row.ensures.value c.row-row.ensures.len in
    let right = c.unwrap_or-x1.ensures ∙ row_last row l.x1 _ (right-in l.invariant) refl c.last.ensures in
    omega (arith, right, right-in l.invariant, last-most (λ (i : ℕ). on_at mask.pixels.now w l.y (l.x1 + i)) (w - l.x1))

pub loop-y-preserved : goal.loop-y-preserved
loop-y-preserved c =
    let l = c.loop-y in
    let row = row-part c.row-row.ensures.value c.row-row.ensures.len in
    let left = c.unwrap_or-x0.ensures ∙ row_first row l.x0 (left_in l.invariant) c.first.ensures in
    let right = c.unwrap_or-x1.ensures ∙ row_last row l.x1 _ (right-in l.invariant) refl c.last.ensures in
    elim c.if-x0-w.branch [
      | then-x0-w w ↦ rw w.y0-is (edges_none l.invariant left right w.if-x0-w.true)
      | else-x0-w w ↦ rw w.y0-is (edges_some l.invariant left right w.if-x0-w.false)
    ]

pub overflow_add-y1 : goal.overflow_add-y1
overflow_add-y1 c =
    let mask = c.args.mask in
    omega (arith, c.unwrap_or-y1.ensures, last-or-zero _ _ c.last_row.ensures, last-most (row_has mask.pixels.now mask.size.w) mask.size.h)

pub overflow_add-y1-2 : goal.overflow_add-y1-2
overflow_add-y1-2 c =
    let mask = c.args.mask in
    omega (arith, c.unwrap_or-y1.ensures, last-or-zero _ _ c.last_row.ensures, last-most (row_has mask.pixels.now mask.size.w) mask.size.h)

pub overflow_add-x1-2 : goal.overflow_add-x1-2
overflow_add-x1-2 c = omega (arith, right-in c.loop-y.invariant)

pub overflow_add-x1-3 : goal.overflow_add-x1-3
overflow_add-x1-3 c = omega (arith, right-in c.loop-y.invariant)

pub returns : goal.returns
unfolding box_of
returns c =
    let mask = c.args.mask in
    let all : c.loop-y.y ≡ mask.size.h = omega arith in
    let e : Edges mask.pixels.now mask.size.w mask.size.h c.loop-y.y0 c.loop-y.x0 c.loop-y.x1 = rw all at c.loop-y.invariant in
    let bottom = c.unwrap_or-y1.ensures ∙ last-or-zero _ _ c.last_row.ensures in
    cc (lesser-min _ _, c.saturating_sub.ensures, c.saturating_sub-2.ensures, c.min.ensures, c.min-2.ensures)
