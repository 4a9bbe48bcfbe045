-- `nearest::below` meets its contract.
-- Assumes nothing.
use Rattle.std.proofs.Common.{◌≡◌, ℕ, ◌+◌, ◌-◌, ◌*◌, ◌<◌, length, get_or, ◌≤◌, sym, ap, ◌∙◌, subst, arith, rules}
use Rattle.std.proofs.lemmas.List.{places}
use Rattle.std.proofs.Math.Nat.{add-mul, one-mul}
use Rattle.plane.proofs.Plane.{row_in}
use Rattle.line.proofs.Part.{put_part}
use Rattle.nearest.specs.steps.Stages.{no_row, BelowFrom}
use Rattle.nearest.proofs.Stages.{below-start, below_next}
use Rattle.nearest.proofs.below.Goals.{After-saturating_sub-at}
use Rattle.nearest.proofs.below.Goals as goal

pub loop-y-init : goal.loop-y-init
loop-y-init c =
    let a = c.args in
    let n = c.area-at.result in
    let filled : (x : ℕ) → x < a.mask.size.w → get_or c.fill.new.self x 0 ≡ no_row = λ x l. search rules in
    let long : length c.fill.new.self ≡ a.mask.size.w = omega arith in (
      c.area-at.ensures,
      below-start a.mask.pixels.now a.mask.size.h a.mask.size.w _
          (λ x l. rw (← c.area-at.ensures, put_part 0 n (n + a.mask.size.w) a.work.now c.fill.new.self (omega arith) (omega arith) x (omega arith)) (filled x l)),
    )

-- row y of h starts where the row below does, less w
row-before : (y h w : ℕ) → 0 < y → y ≤ h → (y * w - w ≡ (y - 1) * w) × ((y - 1) * w + w ≤ h * w)
row-before y h w p l =
    let is : y ≡ y - 1 + 1 = omega arith in
    let m : y * w ≡ (y - 1) * w + w = ap (λ (k : ℕ). k * w) is ∙ add-mul (y - 1) 1 w ∙ ap (λ (k : ℕ). (y - 1) * w + k) (one-mul w) in
    (omega arith, row_in (y - 1) h w (omega arith))

-- where row y starts
start : (c : After-saturating_sub-at) → (c.saturating_sub-at.result ≡ (c.loop-y.y - 1) * c.args.mask.size.w)
    × ((c.loop-y.y - 1) * c.args.mask.size.w + c.args.mask.size.w ≤ c.args.mask.size.h * c.args.mask.size.w)
start c =
    let r = row-before c.loop-y.y c.args.mask.size.h c.args.mask.size.w (omega arith) (omega arith) in
    (c.saturating_sub-at.ensures ∙ ap (λ (k : ℕ). k - c.args.mask.size.w) c.loop-y.invariant.0 ∙ r.0, r.1)

pub loop-y-preserved : goal.loop-y-preserved
loop-y-preserved c =
    let a = c.args in
    let is : c.loop-y.y ≡ c.loop-y.y - 1 + 1 = omega arith in
    let s = start (goal.at.loop-y-preserved c).After-saturating_sub-at in (
      s.0,
      below_next a.mask.pixels.now a.mask.size.h a.mask.size.w c.loop-y.work _ (omega arith)
          (subst (λ (m : ℕ). BelowFrom a.mask.pixels.now a.mask.size.h a.mask.size.w m c.loop-y.work) is c.loop-y.invariant.1)
          (λ x l. rw (sym s.0) (grind (arith, places)))
          (λ i l. grind (arith, places)),
    )
