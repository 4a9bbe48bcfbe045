-- `cutting::key` meets its contract.
-- Assumes nothing.
use mathlib.Core.Path.{◌≡◌, sym, ap, ◌∙◌}
use mathlib.Core.Bool.{not}
use Prim.Native.Nat.{ℕ, ◌*◌}
use lib.ListN.{length}
use Rattle.std.specs.Option.{is_some}
use Rattle.plane.specs.Mask.{is_on, mask_of}
use Rattle.plane.specs.steps.Complement.{complement_of}
use Rattle.outline.specs.Ground.{ground_of}
use Rattle.outline.specs.Growth.{growth_of}
use Rattle.outline.proofs.GrowthLaws.{growth-length}
use Rattle.cutting.specs.steps.Key.{keyed_plane}
use Rattle.cutting.proofs.Keyed.{not_found, was-found, found-some, found-plane, absent-plane, zeros-turned}
use Rattle.cutting.proofs.key.Goals.{in-Some, in_default}
use Rattle.cutting.proofs.key.Goals as goal

pub returns-clause-value : goal.returns-clause-value
returns-clause-value c =
    let p = c.args.picture in
    let kept : c.match-found.found ≡ c.ground_from-found.result = elim c.match-found.branch [ in-Some w ↦ w.found-is ∙ sym w.in-Some.is | in_default w ↦ w.found-is ] in
    c.is_some.ensures ∙ ap is_some (kept ∙ c.ground_from-found.ensures.value)
    ∙ found-some p.colours.now p.size.h p.size.w c.args.reference.colour c.args.tolerance

pub returns-clause-mask_after : goal.returns-clause-mask_after
unfolding keyed_plane complement_of
returns-clause-mask_after c =
    let a = c.args in
    let p = a.picture in
    let call = c.ground_from-found in
    elim c.match-found.branch [
      | in-Some w ↦
          let yes = was-found _ _ _ _ _ _ (sym call.ensures.value ∙ w.in-Some.is) in
          let ground = ground_of p.colours.now p.size.h p.size.w a.reference.colour a.tolerance in
          let plane : call.new.out ≡ ground = call.ensures.out_after ∙ found-plane _ _ _ _ _ yes.0 in
          let g = growth_of p.colours.now a.reference.colour p.size.h p.size.w a.passes ground in
          let e : c.match-found.mask ≡ g = w.mask-is ∙ w.grow.ensures ∙ rw (yes.1, plane) in
          let long : length g ≡ p.size.h * p.size.w = growth-length _ _ _ _ _ ground in
          rw yes.0 (c.complement.ensures ∙ rw e (ap (λ (n : ℕ). mask_of n (λ (i : ℕ). not (is_on g i))) long))
      | in_default w ↦
          let no = not_found _ _ _ _ _ call.result call.ensures.value w.in_default.not-Some in
          let zeros = w.mask-is ∙ call.ensures.out_after ∙ absent-plane _ _ _ _ _ no in
          rw no (c.complement.ensures ∙ zeros-turned _ _ zeros)
    ]
