-- What is known of a file that is not declined, and that a long one is declined.
-- Assumes nothing.
use mathlib.Core.Path.{◌≡◌, refl, sym, ap, ◌∙◌}
use mathlib.Core.Bool.{Bool, true, false, cond}
use mathlib.Core.List.{List, [], ◌∷◌}
use mathlib.Core.Logic.{⊎_elim}
use Prim.Native.Nat.{ℕ, zero, suc, ◌+◌, ◌*◌, ◌≤◌, ◌<◌}
use native.Mathlib.Nat.{mul-suc, mul_comm}
use native.Mathlib.Omega.{arith}
use lib.Dec.{leb}
use lib.ListN.{length, take}
use lib.Seq.{length-take-le}
use borrow.Author.Tests.{ne_eqb, leb-true, eqb-true}
use Rattle.std.proofs.Common.{Option, Some, None}
use Rattle.plane.specs.Refusal.{refusal_of}
use Rattle.std.proofs.lemmas.Bool.{cases_Bool}
use Rattle.plane.proofs.Refusal.{passed}
use Rattle.pam_header.specs.declared.Header.{Header}
use Rattle.pam_header.specs.Header.{header_of}
use Rattle.pam.specs.Picture.{most_pixels, most_input, pixels_of, file_tests}
use Rattle.pam.specs.steps.File.{file_refusal}
use Rattle.pam_header.proofs.Sizes.{Small, header-small, header-first}

-- ---- an accepted file

pub record FileOk (header : Header) (input : List ℕ) : Type 0 where
  pub few : pixels_of header ≤ most_pixels
  pub long : length input ≡ header.body + 4 * pixels_of header

pub file-ok : (header : Header) (input : List ℕ) → file_refusal (Some header) input ≡ 0 → FileOk header input
unfolding file_refusal
file-ok header input e =
    let t = passed (file_tests (Some header) input) refl e in
    record { few = leb-true _ _ t.1.0; long = eqb-true _ _ t.1.1.0 }

-- a side is at most the product
factor-most : (a b : ℕ) → 1 ≤ b → a ≤ a * b
factor-most a zero l = absurd (omega arith)
factor-most a (suc b) l = rw (mul-suc a b) (omega arith)

-- the sides of a picture that is small enough
pub record SidesOk (h w : ℕ) : Type 0 where
  pub some_rows : 1 ≤ h
  pub some_columns : 1 ≤ w
  pub tall : h ≤ most_pixels
  pub wide : w ≤ most_pixels

pub sides-of : (header : Header) → Small header → pixels_of header ≤ most_pixels → SidesOk header.height header.width
sides-of header s few =
    let h = header.height in
    let w = header.width in
    let x = factor-most h w s.width_some in
    let y : w ≤ h * w = rw (mul_comm h w) (factor-most w h s.height_some) in
    record { some_rows = s.height_some; some_columns = s.width_some; tall = omega arith; wide = omega arith }

-- ---- a long input is declined, by its header

-- the number of a file whose length is not that of its picture
long_refusal : Option Header → ℕ
long_refusal None = 8
long_refusal (Some header) = refusal_of ((10, leb (pixels_of header) most_pixels) ∷ (9, false) ∷ [])

long-by : (header : Option Header) (input : List ℕ) → ((h : Header) → header ≡ Some h → length input ≡ h.body + 4 * pixels_of h → most_pixels < pixels_of h)
    → file_refusal header input ≡ long_refusal header
unfolding file_refusal long_refusal refusal_of
long-by None input f = refl
long-by (Some header) input f =
    ⊎_elim {C = file_refusal (Some header) input ≡ long_refusal (Some header)}
    (λ (t : leb (pixels_of header) most_pixels ≡ true).
    let few = leb-true (pixels_of header) most_pixels t in
    rw (ne_eqb (length input) (header.body + 4 * pixels_of header) (λ e. omega (arith, few, f header refl e))))
    (λ (t : leb (pixels_of header) most_pixels ≡ false). rw t)
    (cases_Bool (leb (pixels_of header) most_pixels))

long-number : (input : List ℕ) → most_input ≤ length input → file_refusal (header_of input) input ≡ long_refusal (header_of input)
long-number input l = long-by (header_of input) input (λ h e n. omega (arith, n, (header-small input h e).body_most))

long-some : (header : Option Header) → long_refusal header ≡ 0 → ⊥
unfolding long_refusal refusal_of
long-some None e = omega (arith, e)
long-some (Some header) e = by (leb (pixels_of header) most_pixels) e
  where
    by : (b : Bool) → ◌≡◌ {A = ℕ} (cond b 9 10) 0 → ⊥
    by true e = omega (arith, e)
    by false e = omega (arith, e)

-- a file as long as most_input is declined, and its first most_input bytes are declined by the same number
pub record LongDeclined (input : List ℕ) : Type 0 where
  pub declined : file_refusal (header_of input) input ≡ 0 → ⊥
  pub first_same : let first = take most_input input in file_refusal (header_of first) first ≡ file_refusal (header_of input) input

pub long-declined : (input : List ℕ) → most_input ≤ length input → LongDeclined input
long-declined input l =
    let t = take most_input input in
    let k : length t ≡ most_input = length-take-le most_input input l in
    record {
      declined = λ e. long-some (header_of input) (sym (long-number input l) ∙ e);
      first_same =
          long-number t (omega arith) ∙ ap long_refusal (header-first most_input input (omega arith)) ∙ sym (long-number input l);
    }
