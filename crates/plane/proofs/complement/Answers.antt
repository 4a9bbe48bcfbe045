-- `plane::complement` meets its contract.
-- Assumes nothing.
use Rattle.std.proofs.Common.{ℕ, eqb, ap, ◌∙◌, arith}
use Rattle.plane.specs.Plane.{bit}
use Rattle.plane.specs.Mask.{mask_of}
use Rattle.plane.specs.steps.Complement.{complement_of}
use Rattle.plane.proofs.Plane.{from_bool-bit}
use Rattle.plane.proofs.Mask.{off_byte}
use Rattle.plane.proofs.InPlace.{changed-none, changed-more, changed-end}
use Rattle.plane.proofs.complement.Goals as goal

pub loop-m-init : goal.loop-m-init
loop-m-init c = changed-none 0 _ _

pub loop-m-preserved : goal.loop-m-preserved
loop-m-preserved c =
    let l = c.loop-m in
    let m = c.args.mask.now in
    let old = ap (λ (n : ℕ). bit (eqb n 0)) (l.invariant.back l.m-index (omega arith)) in
    let right = c.from.ensures ∙ from_bool-bit _ ∙ old ∙ ap bit (off_byte m l.m-index) in
    changed-more 0 _ m l.mask l.m-index c.from.result l.invariant (omega arith) right

pub returns : goal.returns
unfolding complement_of mask_of
returns c = let l = c.loop-m in changed-end 0 _ _ l.mask l.m-index l.invariant (omega arith)
