-- `weights::reach` meets its contract.
-- Assumes nothing.
use Rattle.std.proofs.Common.{◌≡◌, ℤ, length, ap, ◌∙◌, arith}
use mir.Syntax.{w64}
use mir.Val.{to_z, of_z}
use mir.Facts.{to_z-of_z}
use Rattle.plane.specs.Plane.{bit, table}
use Rattle.plane.specs.Mask.{mask_of}
use Rattle.plane.proofs.Plane.{from_bool-bit}
use Rattle.plane.proofs.InPlace.{changed-none, changed-more, changed-end}
use Rattle.weights.proofs.reach.Invariants.{reached}
use Rattle.weights.proofs.reach.Goals as goal

pub loop-i-init : goal.loop-i-init
loop-i-init c = changed-none 0 _ _

pub loop-i-preserved : goal.loop-i-preserved
loop-i-preserved c =
    let l = c.loop-i in
    let e = c.from.ensures ∙ from_bool-bit _ ∙ ap bit c.reaches.ensures in
    changed-more 0 _ _ l.mask l.i _ l.invariant (omega arith) e

pub returns : goal.returns
unfolding mask_of
returns c =
    let l = c.loop-i in
    let a = c.args in
    let t : to_z w64 (of_z w64 a.threshold) ≡ a.threshold = to_z-of_z {w = w64} {z = a.threshold} c.ranges.threshold in
    changed-end 0 _ _ l.mask l.i l.invariant (omega arith)
    ∙ ap (table _ 0) c.requires
    ∙ ap (λ (z : ℤ). table (reached a.alpha.now z) 0 (length a.alpha.now)) t
