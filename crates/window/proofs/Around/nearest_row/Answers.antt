-- `window::Around::nearest_row` meets its contract.
-- Assumes nothing.
use Rattle.std.proofs.Common.{◌≡◌, Bool, true, false, ◌||◌, refl, sym, ◌∙◌, arith}
use borrow.Author.Tests.{lt-leb, le-ltb}
use Rattle.plane.proofs.Search.{not-both}
use Rattle.window.proofs.Searching.{row_above, row_below, clear_more}
use Rattle.window.proofs.Around.nearest_row.Goals as goal
use Rattle.window.proofs.Around.nearest_row.Goals.{then-e-self, else-e-self, then-self-e, else-self-e}

neither : (s t : Bool) → s || t ≡ false → (s ≡ false) × (t ≡ false)
neither true t e = (e, cc)
neither false t e = (refl, e)

pub returns-then-above-clause-found : goal.returns-then-above-clause-found
returns-then-above-clause-found c =
    let a = c.args in
    elim c.if-e-self.branch [
      | then-e-self w ↦
          row_above a.self.deep.pixels.now a.self.deep.size.h a.self.deep.size.w a.self.y a.i c.loop-e.e c.loop-e.invariant a.across a.far c.if-far-across.false
          w.if-e-self.true a.self.row (sym w.is_on-above.ensures ∙ sym w.above-is ∙ c.if-above.true)
      | else-e-self w ↦ not-both c.if-e-self.above c.if-above.true (w.above-is ∙ lt-leb _ _ w.if-e-self.false)
    ]

pub returns-else-above-clause-found : goal.returns-else-above-clause-found
returns-else-above-clause-found c =
    let a = c.args in
    let below = rw c.if-above.false at c.if-above-below.true in
    elim c.if-self-e.branch [
      | then-self-e w ↦
          row_below a.self.deep.pixels.now a.self.deep.size.h a.self.deep.size.w a.self.y a.i c.loop-e.e c.loop-e.invariant a.across a.far c.if-far-across.false
          (λ g. elim c.if-e-self.branch [
            | then-e-self v ↦ sym v.is_on-above.ensures ∙ sym v.above-is ∙ c.if-above.false
            | else-e-self v ↦ absurd (omega arith)
          ])
          w.if-self-e.true (sym w.is_on-below.ensures ∙ sym w.below-is ∙ below)
      | else-self-e w ↦ not-both c.if-self-e.below below (w.below-is ∙ le-ltb _ _ w.if-self-e.false)
    ]

pub loop-e-preserved : goal.loop-e-preserved
loop-e-preserved c =
    let a = c.args in
    let off = neither c.if-e-self.above c.if-self-e.below c.if-above-below.false in
    clear_more a.self.deep.pixels.now a.self.deep.size.h a.self.deep.size.w a.self.y a.i c.loop-e.e c.loop-e.invariant
    (λ g. elim c.if-e-self.branch [
      | then-e-self v ↦ sym v.is_on-above.ensures ∙ sym v.above-is ∙ off.0
      | else-e-self v ↦ absurd (omega arith)
    ])
    (λ g. elim c.if-self-e.branch [
      | then-self-e v ↦ sym v.is_on-below.ensures ∙ sym v.below-is ∙ off.1
      | else-self-e v ↦ absurd (omega arith)
    ])
