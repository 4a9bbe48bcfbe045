-- From the parts to the whole: how long the text is, and that it is the text of the input.
-- Assumes nothing.
use mathlib.Core.Path.{◌≡◌, refl, sym, ap, ◌∙◌}
use mathlib.Core.Bool.{Bool, true, false, cond}
use mathlib.Core.List.{List, [], ◌∷◌, ◌++◌}
use mathlib.Core.Logic.{⊎_elim}
use Prim.Native.Nat.{ℕ, ◌+◌, ◌*◌, ◌≤◌, ◌<◌}
use native.Mathlib.Nat.{zero-add}
use native.Mathlib.Omega.{arith}
use lib.Dec.{eqb, leb}
use lib.ListN.{length, get_or, drop}
use lib.Seq.{sets-eq}
use borrow.Author.Tests.{ne_eqb, le-leb, eqb-true, eqb-false}
use Rattle.std.proofs.Common.{Option, Some, None}
use Rattle.plane.specs.Refusal.{refusal_of}
use Rattle.plane.specs.Search.{some_below}
use Rattle.std.proofs.lemmas.Bool.{cases_Bool}
use Rattle.plane.proofs.Refusal.{declined-first, passed_first}
use Rattle.text.specs.steps.Writing.{Wrote}
use Rattle.pam_header.specs.declared.Header.{Header}
use Rattle.pam_header.specs.Header.{header_of}
use Rattle.pam.specs.Settings.{threshold}
use Rattle.pam.specs.Picture.{most_pixels, pixels_of, colours_of, alpha_of, file_tests}
use Rattle.pam.specs.steps.File.{file_refusal}
use Rattle.pam_header.proofs.Sizes.{Small, header-small}
use Rattle.pam.proofs.Files.{file-ok, sides-of}
use Rattle.pbm.specs.Text.{refusal_text}
use Rattle.pbm.proofs.Lengths.{mask_long, refusal-short}
use Rattle.cutfile.specs.Cutcard.{alpha_test, refusal_under, text_under, cut_with, cut_text, card_text, most_text, CardCalled}
use Rattle.cutfile.specs.steps.Text.{alpha_refusal, picture_text}
use Rattle.cutfile.proofs.Pictures.{lines-short}

-- the number is one of four, or 0
small : (b c d : Bool) → cond b (cond c (cond d 0 6) 9) 10 < 10000
small true true true = omega arith
small true true false = omega arith
small true false d = omega arith
small false c d = omega arith

module _ (input : List ℕ) where
  pub card-declined : (header : Option Header) (n : ℕ) → n ≡ file_refusal header input → (n ≡ 0 → ⊥) → refusal_text n ≡ text_under header input
  unfolding text_under refusal_under file_refusal
  card-declined None n e z = ap refusal_text e
  card-declined (Some header) n e z =
      let f = declined-first (file_tests (Some header) input) (alpha_test (alpha_of header input) ∷ []) (λ g. z (e ∙ g)) in
      rw (f, ← e, ne_eqb n 0 z)

  number_small : (header : Option Header) → refusal_under header input < 10000
  unfolding refusal_under refusal_of
  number_small None = omega arith
  number_small (Some header) =
      small (leb (pixels_of header) most_pixels) (eqb (length input) (header.body + 4 * pixels_of header))
      (some_below (length (alpha_of header input)) (λ (i : ℕ). leb threshold (get_or (alpha_of header input) i 0)))

  pub file-small : (header : Option Header) → file_refusal header input < 10000
  unfolding file_refusal refusal_of
  file-small None = omega arith
  file-small (Some header) =
      small (leb (pixels_of header) most_pixels) (eqb (length input) (header.body + 4 * pixels_of header)) true

module _ (header : Header) (input : List ℕ) where
  pub card-picture : file_refusal (Some header) input ≡ 0
      → picture_text (colours_of header input) (alpha_of header input) header.height header.width ≡ text_under (Some header) input
  unfolding text_under refusal_under file_refusal alpha_refusal picture_text
  card-picture e = rw (passed_first (file_tests (Some header) input) (alpha_test (alpha_of header input) ∷ []) refl e)

  -- a file that is declined for nothing has passed the tests of the file
  accepted-file : refusal_under (Some header) input ≡ 0 → file_refusal (Some header) input ≡ 0
  unfolding refusal_under file_refusal
  accepted-file e =
      let n = file_refusal (Some header) input in
      ⊎_elim {C = n ≡ 0}
      (λ (t : eqb n 0 ≡ true). eqb-true n 0 t)
      (λ (t : eqb n 0 ≡ false).
      sym (declined-first (file_tests (Some header) input) (alpha_test (alpha_of header input) ∷ []) (eqb-false n 0 t)) ∙ e)
      (cases_Bool (eqb n 0))

  accepted-short : Small header → refusal_under (Some header) input ≡ 0
      → length (cut_text (colours_of header input) (alpha_of header input) header.height header.width) ≤ most_text
  unfolding cut_text
  accepted-short small e =
      let f = file-ok header input (accepted-file e) in
      let few : header.height * header.width ≤ most_pixels = f.few in
      let s = sides-of header small f.few in
      let colours = colours_of header input in
      let alpha = alpha_of header input in
      let c = cut_with colours alpha header.height header.width in
      omega (
        arith,
        few,
        mask_long c.mask header.height header.width c.box c.keyed,
        lines-short colours alpha header.height header.width c.keyed s.tall s.wide,
      )

-- no text is longer than most_text
pub text-short : (input : List ℕ) → length (card_text input) ≤ most_text
unfolding text_under
text-short input = by (header_of input) refl
  where
    by : (header : Option Header) → header_of input ≡ header → length (text_under header input) ≤ most_text
    by None e = omega (arith, refusal-short (refusal_under None input) (number_small input None))
    by (Some header) e =
        let n = refusal_under (Some header) input in
        ⊎_elim {C = length (text_under (Some header) input) ≤ most_text}
        (λ (t : eqb n 0 ≡ true). rw t (accepted-short header input (header-small input header e) (eqb-true n 0 t)))
        (λ (t : eqb n 0 ≡ false). rw t (omega (arith, refusal-short n (number_small input (Some header)))))
        (cases_Bool (eqb n 0))

-- a buffer that is long enough, with the text written to its front
pub whole : (input old new text : List ℕ) (r : ℕ) → most_text ≤ length old → text ≡ card_text input → Wrote text old new 0 r
    → CardCalled input old r new
whole input old new text r l e w =
    let v : Wrote (card_text input) old new 0 r = rw e at w in
    let t = card_text input in
    let k : 0 + length t ≡ length t = zero-add (length t) in
    let n : 0 + length t ≤ length old = omega (arith, text-short input) in
    record {
      answer = rw (le-leb most_text (length old) l) (v.end_is ∙ k);
      out_is = rw (le-leb most_text (length old) l) (v.bytes_are ∙ sets-eq t old 0 n ∙ ap (λ (j : ℕ). t ++ drop j old) k);
    }
