-- Which of the first bytes decide the answer, so that a program which reads no more answers for an input of any length; what 8 means;
-- and that what was accepted before the lines of a header might come in any order still prints the same bytes.
-- Assumes nothing.
use mathlib.Core.Path.{◌≡◌, refl, sym, ap, ◌∙◌}
use mathlib.Core.Bool.{Bool, true, false, cond}
use mathlib.Core.List.{List}
use mathlib.Core.Logic.{⊎_elim}
use Prim.Native.Nat.{ℕ, ◌+◌, ◌*◌, ◌≤◌, ◌<◌}
use native.Mathlib.Omega.{arith}
use lib.Dec.{eqb, leb}
use lib.ListN.{length, get_or, take}
use lib.Seq.{take_all}
use Rattle.std.proofs.Common.{Option, Some, None}
use Rattle.std.specs.Option.{is_some, IsSome, IsNone}
use Rattle.plane.specs.Refusal.{refusal_of}
use Rattle.plane.specs.Search.{some_below}
use Rattle.plane.proofs.Search.{not-both}
use Rattle.std.proofs.lemmas.Bool.{cases_Bool, cases_lt}
use Rattle.pam_header.specs.declared.Header.{Header}
use Rattle.pam_header.specs.Header.{most_header, header_of}
use Rattle.pam_header.specs.HeaderText.{said_by, HasHeader}
use Rattle.pam_header.specs.EarlierHeader.{earlier_of}
use Rattle.pam.specs.Picture.{most_pixels, most_input, pixels_of, alpha_of}
use Rattle.pam.specs.Settings.{threshold}
use Rattle.pam.specs.steps.File.{file_refusal}
use Rattle.pam_header.proofs.Sizes.{header-first}
use Rattle.pam_header.proofs.HeaderLaws.{header-means}
use Rattle.pam.proofs.Files.{long-declined}
use Rattle.pam_header.proofs.EarlierLaws.{earlier-same}
use Rattle.cutfile.specs.Cutcard.{refusal_under, text_under, card_refusal, card_text}
use Rattle.cutfile.specs.Earlier.{earlier_refusal, earlier_text}
use Rattle.cutfile.proofs.Texts.{card-declined}

-- ---- the first bytes

-- the text depends on the first most_input bytes alone
pub first-bytes : (input : List ℕ) → card_text (take most_input input) ≡ card_text input
first-bytes input =
    ⊎_elim {C = card_text (take most_input input) ≡ card_text input}
    (λ (l : length input < most_input). ap card_text (take_all most_input input (omega arith)))
    (λ (l : most_input ≤ length input).
    let d = long-declined input l in
    let first = take most_input input in
    let number = file_refusal (header_of input) input in
    sym (card-declined first (header_of first) number (sym d.first_same) d.declined)
    ∙ card-declined input (header_of input) number refl d.declined)
    (cases_lt (length input) most_input)

-- 8 is the answer to a header that is not accepted, and to nothing else
not-eight : (b c d : Bool) → ◌≡◌ {A = ℕ} (cond b (cond c (cond d 0 6) 9) 10) 8 → ⊥
not-eight true true true e = omega (arith, e)
not-eight true true false e = omega (arith, e)
not-eight true false d e = omega (arith, e)
not-eight false c d e = omega (arith, e)

eight-header : (header : Option Header) (input : List ℕ) → refusal_under header input ≡ 8 → IsNone header
unfolding refusal_under refusal_of
eight-header None input e = refl
eight-header (Some header) input e =
    absurd
    (not-eight (leb (pixels_of header) most_pixels) (eqb (length input) (header.body + 4 * pixels_of header))
    (some_below (length (alpha_of header input)) (λ (i : ℕ). leb threshold (get_or (alpha_of header input) i 0)))
    e)

header-eight : (header : Option Header) (input : List ℕ) → IsNone header → refusal_under header input ≡ 8
unfolding refusal_under refusal_of
header-eight None input e = refl
header-eight (Some header) input e = not-both true refl e

-- the first most_header bytes decide whether it is 8
pub first-eight : (a b : List ℕ) → take most_header a ≡ take most_header b → card_refusal a ≡ 8 → card_refusal b ≡ 8
first-eight a b e n =
    let same : header_of a ≡ header_of b =
    sym (header-first most_header a (omega arith)) ∙ ap header_of e ∙ header-first most_header b (omega arith) in
    header-eight (header_of b) b (sym (ap is_some same) ∙ eight-header (header_of a) a n)

-- ---- what 8 means: just the inputs that start with a header of R38 get another answer

pub header-not-eight : (input : List ℕ) → HasHeader input → card_refusal input ≡ 8 → ⊥
unfolding said_by
header-not-eight input has e =
    not-both (is_some (header_of input)) (ap is_some has.header_is) (eight-header (header_of input) input e)

pub not-eight-header : (input : List ℕ) → (card_refusal input ≡ 8 → ⊥) → HasHeader input
not-eight-header input n =
    ⊎_elim {C = HasHeader input}
    (λ (t : IsSome (header_of input)). header-means input t)
    (λ (t : IsNone (header_of input)). absurd (n (header-eight (header_of input) input t)))
    (cases_Bool (is_some (header_of input)))

-- ---- what was accepted at first

pub record Kept (input : List ℕ) : Type 0 where
  pub number_kept : card_refusal input ≡ earlier_refusal input
  pub text_kept : card_text input ≡ earlier_text input

-- every answer but 8 is as it was
pub earlier-kept : (input : List ℕ) → (earlier_refusal input ≡ 8 → ⊥) → Kept input
earlier-kept input n =
    ⊎_elim {C = Kept input}
    (λ (t : IsSome (earlier_of input)).
    let same = earlier-same input t in
    record {
      number_kept = ap (λ (h : Option Header). refusal_under h input) same;
      text_kept = ap (λ (h : Option Header). text_under h input) same;
    })
    (λ (t : IsNone (earlier_of input)). absurd (n (header-eight (earlier_of input) input t)))
    (cases_Bool (is_some (earlier_of input)))

-- so a file that was accepted prints the same bytes
pub earlier-accepted : (input : List ℕ) → earlier_refusal input ≡ 0 → card_text input ≡ earlier_text input
earlier-accepted input e = (earlier-kept input (λ n. let z : ◌≡◌ {A = ℕ} 0 8 = sym e ∙ n in omega arith)).text_kept
