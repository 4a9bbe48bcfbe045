-- `keying::copy` meets its contract.
-- Assumes nothing.
use Rattle.std.proofs.Common.{refl, sym, ◌∙◌, length, arith}
use Rattle.plane.proofs.Plane.{table_is}
use Rattle.plane.proofs.InPlace.{changed-none, changed-more, changed-end}
use Rattle.keying.proofs.copy.Goals as goal

pub loop-i-init : goal.loop-i-init
loop-i-init c = changed-none 0 _ _

pub loop-i-preserved : goal.loop-i-preserved
loop-i-preserved c =
    let l = c.loop-i in
    changed-more 0 _ _ l.to l.i _ l.invariant (omega arith) refl

pub returns : goal.returns
returns c =
    let l = c.loop-i in
    changed-end 0 _ _ l.to l.i l.invariant (omega arith) ∙ sym (table_is _ (length c.args.to.now) c.args.from.now 0 c.requires (λ i g. refl))
