-- `keying::flat_background` meets its contract.
-- Assumes nothing.
use mathlib.Core.Path.{sym, ap, ◌∙◌}
use Rattle.std.proofs.Common.{Ok}
use Rattle.std.proofs.lemmas.Result.{err_from_is_err_and}
use Rattle.plane.specs.Refusal.{done_for}
use Rattle.plane.proofs.Refusal.{accepted, is-accepted, written}
use Rattle.keying.proofs.Accepted.{ground-ok, ground-by-picture, ground-refused, ground-wrong-lengths}
use Rattle.keying.proofs.flat_background.Goals as goal

pub returns-in_err-size : goal.returns-in_err-size
returns-in_err-size c =
    let a = c.args in
    let p = err_from_is_err_and c.from_residual.result c.from_residual.ensures.1 in
    rw (p.1, p.2) (ground-wrong-lengths a.colours.now a.h a.w _ a.tolerance a.work.now a.out.now c.in_err-size.ensures.refusal)

-- the number that the picture gets is the call's
pub returns-in_err-picture_refusal : goal.returns-in_err-picture_refusal
returns-in_err-picture_refusal c =
    let a = c.args in
    let p = err_from_is_err_and c.from_residual-in_err-picture_refusal.result c.from_residual-in_err-picture_refusal.ensures.1 in
    let z = is-accepted _ _ _ c.in_ok-size.ensures.refusal in
    let n = ground-by-picture a.colours.now a.h a.w _ a.tolerance a.work.now a.out.now c.card_lent-card.ensures z in
    rw (p.1, p.2) (ground-refused _ _ _ _ _ _ _ (c.in_err-picture_refusal.ensures ∙ ap done_for n))

pub invariant_of-picture : goal.invariant_of-picture
invariant_of-picture c =
    let a = c.args in
    let z = is-accepted _ _ _ c.in_ok-size.ensures.refusal in
    let n = ground-by-picture a.colours.now a.h a.w _ a.tolerance a.work.now a.out.now c.card_lent-card.ensures z in
    let k = ground-ok c.in_ok-size.size _ _ _ _ _ _ _ c.in_ok-size.ensures.size (sym n ∙ is-accepted _ _ _ c.in_ok-picture_refusal.ensures) in
    record { whole = k.input; in_range = k.range }

pub flat_ground-requires : goal.flat_ground-requires
flat_ground-requires c =
    let a = c.args in
    let z = is-accepted _ _ _ c.in_ok-size.ensures.refusal in
    let n = ground-by-picture a.colours.now a.h a.w _ a.tolerance a.work.now a.out.now c.card_lent-card.ensures z in
    let k = ground-ok c.in_ok-size.size _ _ _ _ _ _ _ c.in_ok-size.ensures.size (sym n ∙ is-accepted _ _ _ c.in_ok-picture_refusal.ensures) in
    record { room = k.room; out_len = k.output }

pub returns : goal.returns
returns c =
    let a = c.args in
    let s = c.in_ok-size.ensures.size in
    let z = is-accepted _ _ _ c.in_ok-size.ensures.refusal in
    let n = ground-by-picture a.colours.now a.h a.w _ a.tolerance a.work.now a.out.now c.card_lent-card.ensures z in
    let y = sym n ∙ is-accepted _ _ _ c.in_ok-picture_refusal.ensures in
    record {
      answer = ap Ok (c.flat_ground.ensures.value ∙ rw (s.0, s.1, c.card_lent-card.ensures)) ∙ sym (accepted _ _ y);
      out_is = c.flat_ground.ensures.out_after ∙ rw (s.0, s.1, c.card_lent-card.ensures) (sym (written _ _ _ y));
      kept = λ bad. absurd (bad y);
    }
