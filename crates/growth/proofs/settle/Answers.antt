-- `growth::settle` meets its contract.
-- Assumes nothing.
use Rattle.std.proofs.Common.{ℕ, ◌||◌, refl, ap, ◌∙◌, arith}
use Rattle.plane.specs.Plane.{on, bit}
use Rattle.plane.specs.Search.{some_below}
use Rattle.plane.specs.Mask.{is_on, mask_of}
use Rattle.plane.proofs.Search.{some_more}
use Rattle.plane.proofs.InPlace.{changed-none, changed-more, changed-end}
use Rattle.plane.proofs.Plane.{from_bool-bit}
use Rattle.growth.proofs.settle.Goals as goal

pub loop-i-init : goal.loop-i-init
unfolding some_below
loop-i-init c = record { changed = changed-none 0 _ _; known = refl }

pub loop-i-preserved : goal.loop-i-preserved
unfolding is_on on
loop-i-preserved c =
    let l = c.loop-i in
    let marks = c.args.marks.now in
    let same = ap (λ (b : ℕ). bit (on b || is_on marks l.i)) (l.invariant.changed.back l.i (omega arith)) in record {
      changed = changed-more 0 _ _ l.back l.i c.from.result l.invariant.changed (omega arith) (c.from.ensures ∙ from_bool-bit _ ∙ same);
      known = some_more (is_on marks) l.i l.joined (is_on marks l.i) l.invariant.known refl;
    }

pub returns-clause-back_after : goal.returns-clause-back_after
unfolding mask_of
returns-clause-back_after c = let l = c.loop-i in changed-end 0 _ _ l.back l.i l.invariant.changed (omega arith)
