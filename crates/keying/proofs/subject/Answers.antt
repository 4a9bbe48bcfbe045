-- `keying::subject` meets its contract.
-- Assumes nothing.
use mathlib.Core.Path.{sym, ap, ◌∙◌}
use borrow.Author.Rules.{rules}
use Rattle.std.proofs.lemmas.Result.{err_from_is_err_and}
use Rattle.plane.specs.Refusal.{done_for}
use Rattle.plane.proofs.Refusal.{is-accepted}
use Rattle.keying.specs.Calls.{cut_buffers}
use Rattle.keying.proofs.Accepted.{cut-ok, cut-by-contents, cut-refused, cut-wrong-lengths, cut-made}
use Rattle.keying.proofs.subject.Goals as goal

pub returns-in_err-size : goal.returns-in_err-size
returns-in_err-size c =
    let a = c.args in
    let b = cut_buffers a.mask.now a.weights.now a.nearest.now a.shallow.now a.deep.now a.marks.now in
    let p = err_from_is_err_and c.from_residual.result c.from_residual.ensures.1 in
    rw (p.1, p.2) (cut-wrong-lengths a.colours.now a.alpha.now a.h a.w _ a.s b c.in_err-size.ensures.refusal (record { picture = λ i l. c.type_inv.colours i; tolerance = search rules }))

-- the number that the contents get is the call's
pub returns-in_err-cut_contents : goal.returns-in_err-cut_contents
returns-in_err-cut_contents c =
    let a = c.args in
    let b = cut_buffers a.mask.now a.weights.now a.nearest.now a.shallow.now a.deep.now a.marks.now in
    let p = err_from_is_err_and c.from_residual-in_err-cut_contents.result c.from_residual-in_err-cut_contents.ensures.1 in
    let z = is-accepted _ _ _ c.in_ok-size.ensures.refusal in
    let n = cut-by-contents a.colours.now a.alpha.now a.h a.w _ a.s b c.card_lent-card.ensures z in
    rw (p.1, p.2) (cut-refused a.colours.now a.alpha.now a.h a.w _ a.s b (c.in_err-cut_contents.ensures ∙ ap done_for n) (record { picture = λ i l. c.type_inv.colours i; tolerance = search rules }))

pub invariant_of-picture : goal.invariant_of-picture
invariant_of-picture c =
    let a = c.args in
    let b = cut_buffers a.mask.now a.weights.now a.nearest.now a.shallow.now a.deep.now a.marks.now in
    let z = is-accepted _ _ _ c.in_ok-size.ensures.refusal in
    let n = cut-by-contents a.colours.now a.alpha.now a.h a.w _ a.s b c.card_lent-card.ensures z in
    let k = cut-ok c.in_ok-size.size _ _ _ _ _ a.s b c.in_ok-size.ensures.size (sym n ∙ is-accepted _ _ _ c.in_ok-cut_contents.ensures) in
    record { whole = k.colours_long; in_range = k.range }

pub cut_mask-keyed-requires : goal.cut_mask-keyed-requires
cut_mask-keyed-requires c =
    let a = c.args in
    let b = cut_buffers a.mask.now a.weights.now a.nearest.now a.shallow.now a.deep.now a.marks.now in
    let z = is-accepted _ _ _ c.in_ok-size.ensures.refusal in
    let n = cut-by-contents a.colours.now a.alpha.now a.h a.w _ a.s b c.card_lent-card.ensures z in
    let k = cut-ok c.in_ok-size.size _ _ _ _ _ a.s b c.in_ok-size.ensures.size (sym n ∙ is-accepted _ _ _ c.in_ok-cut_contents.ensures) in
    record {
      room = record {
        mask_long = k.mask_long;
        nearest_long = k.nearest_long;
        shallow_long = k.shallow_long;
        deep_long = k.deep_long;
        marks_long = k.marks_long;
      };
      alpha_len = k.alpha_long;
    }

pub weights-requires : goal.weights-requires
weights-requires c =
    let a = c.args in
    let b = cut_buffers a.mask.now a.weights.now a.nearest.now a.shallow.now a.deep.now a.marks.now in
    let z = is-accepted _ _ _ c.in_ok-size.ensures.refusal in
    let n = cut-by-contents a.colours.now a.alpha.now a.h a.w _ a.s b c.card_lent-card.ensures z in
    let k = cut-ok c.in_ok-size.size _ _ _ _ _ a.s b c.in_ok-size.ensures.size (sym n ∙ is-accepted _ _ _ c.in_ok-cut_contents.ensures) in
    (c.cut_mask-keyed.auto.mask ∙ k.mask_long ∙ sym k.weights_long, k.alpha_long ∙ sym k.weights_long)

pub invariant_of-crop_of : goal.invariant_of-crop_of
invariant_of-crop_of c =
    let a = c.args in
    let b = cut_buffers a.mask.now a.weights.now a.nearest.now a.shallow.now a.deep.now a.marks.now in
    let z = is-accepted _ _ _ c.in_ok-size.ensures.refusal in
    let n = cut-by-contents a.colours.now a.alpha.now a.h a.w _ a.s b c.card_lent-card.ensures z in
    let k = cut-ok c.in_ok-size.size _ _ _ _ _ a.s b c.in_ok-size.ensures.size (sym n ∙ is-accepted _ _ _ c.in_ok-cut_contents.ensures) in
    record { whole = c.cut_mask-keyed.auto.mask ∙ k.mask_long }

pub returns : goal.returns
returns c =
    let a = c.args in
    let b = cut_buffers a.mask.now a.weights.now a.nearest.now a.shallow.now a.deep.now a.marks.now in
    let s = c.in_ok-size.ensures.size in
    let z = is-accepted _ _ _ c.in_ok-size.ensures.refusal in
    let n = cut-by-contents a.colours.now a.alpha.now a.h a.w _ a.s b c.card_lent-card.ensures z in
    let y = sym n ∙ is-accepted _ _ _ c.in_ok-cut_contents.ensures in
    let k = cut-ok c.in_ok-size.size _ _ _ _ _ a.s b s y in
    let call = c.cut_mask-keyed.ensures in
    let is = c.card_lent-card.ensures in
    cut-made a.colours.now a.alpha.now a.h a.w _ a.s b _ _ _ y (call.value ∙ rw (s.0, s.1, is)) (call.mask_after ∙ rw (s.0, s.1, is))
    (c.weights.ensures ∙ rw k.weights_long (rw (s.0, s.1))) (c.crop_of-crop.ensures ∙ rw (s.0, s.1))
    (record { picture = λ i l. c.type_inv.colours i; tolerance = search rules })
