-- `cutting::cut_mask` meets its contract.
-- Assumes nothing.
use mathlib.Core.Path.{◌≡◌, sym, ◌∙◌}
use mir.Syntax.{w64}
use mir.Val.{to_z, of_z}
use borrow.Author.Rules.{rules}
use Rattle.cutting.proofs.Keyed.{by-alpha, sought-is, sought-flag, sought-mask, unsought-flag, unsought-mask}
use Rattle.cutting.proofs.cut_mask.Goals as goal

pub returns-then-sought : goal.returns-then-sought
returns-then-sought c =
    let a = c.args in
    let p = a.picture in
    let t : to_z w64 (of_z w64 a.s.alpha_threshold) ≡ a.s.alpha_threshold = search rules in
    let m = by-alpha _ _ a.s _ _ c.requires.alpha_len t c.reach.ensures in
    let e = sym (sought-is _ _ a.s _ _ c.some_off.ensures (c.reach.auto.mask ∙ c.requires.room.mask_long) m) ∙ c.if-sought.true in
    let k = c.key.ensures in
    let r = c.reference_on-reference.ensures in
    record {
      value = k.value ∙ rw r (sought-flag p.colours.now a.alpha.now p.size.h p.size.w _ a.s e);
      mask_after = k.mask_after ∙ rw (r, c.passes-passes.ensures) (sought-mask p.colours.now a.alpha.now p.size.h p.size.w _ a.s e);
    }

pub returns : goal.returns
returns c =
    let a = c.args in
    let p = a.picture in
    let t : to_z w64 (of_z w64 a.s.alpha_threshold) ≡ a.s.alpha_threshold = search rules in
    let m = by-alpha _ _ a.s _ _ c.requires.alpha_len t c.reach.ensures in
    let e = sym (sought-is _ _ a.s _ _ c.some_off.ensures (c.reach.auto.mask ∙ c.requires.room.mask_long) m) ∙ c.if-sought.false in
    record {
      value = unsought-flag p.colours.now a.alpha.now p.size.h p.size.w _ a.s e;
      mask_after = m ∙ unsought-mask p.colours.now a.alpha.now p.size.h p.size.w _ a.s e;
    }
