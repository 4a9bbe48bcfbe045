-- `cutfile::write_picture` meets its contract.
-- Assumes nothing.
use mathlib.Core.Path.{◌≡◌, refl, sym, ◌∙◌}
use Prim.Native.Nat.{◌*◌, ◌≤◌}
use native.Mathlib.Omega.{arith}
use lib.Seq.{length-take-le}
use Rattle.std.specs.Prelude.{List, Some, ℕ}
use Rattle.text.proofs.Written.{wrote_as}
use Rattle.pam_header.specs.declared.Header.{Header}
use Rattle.pam_header.proofs.Sizes.{header-small}
use Rattle.pam.specs.Picture.{most_pixels}
use Rattle.pam.specs.steps.File.{file_refusal}
use Rattle.pam.proofs.Files.{file-ok}
use Rattle.cutfile.proofs.Pictures.{said}
use Rattle.cutfile.proofs.write_picture.Goals as goal

-- the pixels of a file that is accepted are few
few : (header : Header) (input : List ℕ) → file_refusal (Some header) input ≡ 0 → header.height * header.width ≤ most_pixels
few header input e = (file-ok header input e).few

pub overflow_mul-n : goal.overflow_mul-n
overflow_mul-n c = omega (arith, few _ _ c.requires.passed)

pub overflow_mul-colours : goal.overflow_mul-colours
overflow_mul-colours c = omega (arith, few _ _ c.requires.passed)

pub slice_bounds-colours-end : goal.slice_bounds-colours-end
slice_bounds-colours-end c = omega (arith, few _ _ c.requires.passed)

pub slice_bounds-colours-end-2 : goal.slice_bounds-colours-end-2
slice_bounds-colours-end-2 c = sym (length-take-le _ _ (omega (arith, few _ _ c.requires.passed)))

pub slice_bounds-alpha-end : goal.slice_bounds-alpha-end
slice_bounds-alpha-end c = few _ _ c.requires.passed

pub slice_bounds-alpha-end-2 : goal.slice_bounds-alpha-end-2
slice_bounds-alpha-end-2 c = sym (length-take-le _ _ (few _ _ c.requires.passed))

pub slice_bounds-mask-end : goal.slice_bounds-mask-end
slice_bounds-mask-end c = few _ _ c.requires.passed

pub slice_bounds-mask-end-2 : goal.slice_bounds-mask-end-2
slice_bounds-mask-end-2 c = sym (length-take-le _ _ (few _ _ c.requires.passed))

pub slice_bounds-weights-end : goal.slice_bounds-weights-end
slice_bounds-weights-end c = few _ _ c.requires.passed

pub slice_bounds-weights-end-2 : goal.slice_bounds-weights-end-2
slice_bounds-weights-end-2 c = sym (length-take-le _ _ (few _ _ c.requires.passed))

pub colours-requires : goal.colours-requires
colours-requires c =
    ((header-small _ _ (sym c.requires.header_is)).body_most, few _ _ c.requires.passed, length-take-le _ _ (omega (arith, few _ _ c.requires.passed)))

pub alpha-requires : goal.alpha-requires
alpha-requires c =
    ((header-small _ _ (sym c.requires.header_is)).body_most, few _ _ c.requires.passed, length-take-le _ _ (few _ _ c.requires.passed))

pub write_mask-requires-clause-mask_len : goal.write_mask-requires-clause-mask_len
write_mask-requires-clause-mask_len c =
    let small = header-small _ _ (sym c.requires.header_is) in
    (small.width_some, c.subject-answer.auto.mask ∙ length-take-le _ _ (few _ _ c.requires.passed))

pub write_mask-requires-clause-out_len : goal.write_mask-requires-clause-out_len
write_mask-requires-clause-out_len c =
    let s = said _ _ _ c.requires.header_is c.requires.passed c.colours.ensures.out_after c.alpha.ensures c.colours.ensures.out_in_range
    (refl, refl, refl, refl, refl, refl) c.settings_of.ensures c.subject-answer.ensures c.in-Ok.is in
    omega (arith, s.1, c.requires.out_len)

pub write_refusal-requires : goal.write_refusal-requires
write_refusal-requires c =
    let s = said _ _ _ c.requires.header_is c.requires.passed c.colours.ensures.out_after c.alpha.ensures c.colours.ensures.out_in_range
    (refl, refl, refl, refl, refl, refl) c.settings_of.ensures c.subject-answer.ensures c.in-Err.is in
    rw c.into.ensures (omega (arith, s.1, c.requires.out_len))

pub returns-in-Ok : goal.returns-in-Ok
returns-in-Ok c =
    let s = said _ _ _ c.requires.header_is c.requires.passed c.colours.ensures.out_after c.alpha.ensures c.colours.ensures.out_in_range
    (refl, refl, refl, refl, refl, refl) c.settings_of.ensures c.subject-answer.ensures c.in-Ok.is in
    wrote_as s.0 c.write_mask.ensures

pub returns-in-Err : goal.returns-in-Err
returns-in-Err c =
    let s = said _ _ _ c.requires.header_is c.requires.passed c.colours.ensures.out_after c.alpha.ensures c.colours.ensures.out_in_range
    (refl, refl, refl, refl, refl, refl) c.settings_of.ensures c.subject-answer.ensures c.in-Err.is in
    wrote_as s.0 (rw c.into.ensures at c.write_refusal.ensures)
