-- `pam::alpha` meets its contract.
-- Assumes nothing.
use mathlib.Core.Path.{ap, ◌∙◌}
use Prim.Native.Nat.{ℕ, ◌+◌, ◌*◌}
use native.Mathlib.Omega.{arith}
use Rattle.plane.specs.Plane.{table}
use Rattle.plane.proofs.InPlace.{changed-more, changed-end}
use Rattle.pam.specs.Picture.{sample_at, alpha_from}
use Rattle.pam.proofs.alpha.Goals as goal

pub loop-i-preserved : goal.loop-i-preserved
unfolding sample_at
loop-i-preserved c =
    let l = c.loop-i in
    let done = l.invariant in
    changed-more 0 _ _ l.out l.i c.byte_at.result done (omega (arith, done.size)) c.byte_at.ensures

pub returns : goal.returns
unfolding alpha_from
returns c =
    let l = c.loop-i in
    changed-end 0 _ _ l.out l.i l.invariant (omega (arith, l.invariant.size))
    ∙ ap (table (λ (k : ℕ). sample_at c.args.input.now c.args.body (4 * k + 3)) 0) c.requires.2
