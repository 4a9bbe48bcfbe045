-- `growth::tidy` meets its contract.
-- Assumes nothing.
use Rattle.std.proofs.Common.{ℕ, ap, ◌∙◌, arith}
use Rattle.plane.specs.Plane.{on, bit}
use Rattle.plane.specs.Mask.{is_on, mask_of}
use Rattle.plane.proofs.InPlace.{changed-more, changed-end}
use Rattle.plane.proofs.Plane.{from_bool-bit}
use Rattle.growth.proofs.tidy.Goals as goal

pub loop-b-preserved : goal.loop-b-preserved
unfolding is_on on
loop-b-preserved c =
    let l = c.loop-b in
    let same = ap (λ (b : ℕ). bit (on b)) (l.invariant.back l.b-index (omega arith)) in
    changed-more 0 _ _ l.back l.b-index c.from.result l.invariant (omega arith) (c.from.ensures ∙ from_bool-bit _ ∙ same)

pub returns : goal.returns
unfolding mask_of
returns c = let l = c.loop-b in changed-end 0 _ _ l.back l.b-index l.invariant (omega arith)
