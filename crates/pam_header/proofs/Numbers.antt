-- Numbers in a header: 1 to 5 digits, the first not '0', have a value from 1 to 99999.
-- Assumes nothing.
use mathlib.Core.Path.{◌≡◌, refl, sym, ap, ◌∙◌}
use mathlib.Core.Bool.{Bool, true, false, not, ◌&&◌}
use mathlib.Core.List.{List, [], ◌∷◌, ◌++◌, append-nil}
use mathlib.Core.Logic.{⊎_elim}
use Prim.Native.Nat.{ℕ, zero, suc, ◌+◌, ◌-◌, ◌*◌, ◌^◌, ◌≤◌, ◌<◌}
use native.Mathlib.Nat.{pow-le-pow_right}
use native.Mathlib.Omega.{arith}
use lib.Dec.{eqb, leb}
use lib.ListN.{length, get_or, take, drop}
use lib.Seq.{take-length}
use borrow.Author.Tests.{ne_eqb, le-leb, leb-true, eqb-true, eqb-false, not-true}
use Rattle.std.specs.Char.{is_ascii_digit}
use Rattle.std.specs.List.{list_all}
use Rattle.std.proofs.lemmas.Bool.{and_parts, cases_Bool}
use Rattle.text.specs.Decimal.{is_digit, all_digits, value_from, value_of, digits_upto, number_upto}
use Rattle.text.proofs.Decimal.{digit-is, value-below}
use Rattle.pam_header.specs.Header.{most_digits, is_numeral}
use Rattle.pam_header.proofs.Comparing.{byte-first, byte-is, drop-one}

-- ---- digits that stand at a place

module _ (input : List ℕ) where
  -- digits with no digit after them are counted
  pub digits_are : (k : ℕ) (l rest : List ℕ) (at : ℕ) → drop at input ≡ l ++ rest → all_digits l ≡ true → length l ≤ k
      → is_digit (get_or rest 0 0) ≡ false → digits_upto k input at ≡ length l
  unfolding digits_upto all_digits
  digits_are zero [] rest at e d f z = refl
  digits_are (suc k) [] rest at e d f z = rw (byte-first input at ∙ ap (λ (q : List ℕ). get_or q 0 0) e, z)
  digits_are zero (b ∷ l) rest at e d f z = absurd (omega arith)
  digits_are (suc k) (b ∷ l) rest at e d f z =
      let a = and_parts (is_digit b) (all_digits l) d in
      rw (byte-is input at b (l ++ rest) e, a.0)
      (ap suc (digits_are k l rest (suc at) (drop-one input at b (l ++ rest) e) a.1 (omega arith) z))

-- past the end there is no digit
zero-ends : is_digit 0 ≡ false
unfolding is_digit
zero-ends = refl

-- in a text of digits all are counted
digits_last : (l : List ℕ) → all_digits l ≡ true → length l ≤ most_digits → digits_upto most_digits l 0 ≡ length l
digits_last l d few = digits_are l most_digits l [] 0 (sym (append-nil l)) d few zero-ends

-- ---- a number

pub record Numeral (l : List ℕ) : Type 0 where
  pub digits : all_digits l ≡ true
  pub few : length l ≤ most_digits
  pub some : 1 ≤ length l
  pub first : get_or l 0 0 ≡ 48 → ⊥

pub numeral : (l : List ℕ) → is_numeral l ≡ true → Numeral l
unfolding is_numeral
numeral l e =
    let a = and_parts (all_digits l && leb (length l) most_digits && leb 1 (length l)) (not (eqb (get_or l 0 0) 48)) e in
    let b = and_parts (all_digits l && leb (length l) most_digits) (leb 1 (length l)) a.0 in
    let c = and_parts (all_digits l) (leb (length l) most_digits) b.0 in
    record {
      digits = c.0;
      few = leb-true (length l) most_digits c.1;
      some = leb-true 1 (length l) b.1;
      first = eqb-false (get_or l 0 0) 48 (not-true (eqb (get_or l 0 0) 48) a.1);
    }

-- the test of each byte is that of all
pub all_each : (l : List ℕ) → list_all is_ascii_digit l ≡ all_digits l
unfolding all_digits is_digit
all_each [] = refl
all_each (b ∷ l) = ap (λ (t : Bool). is_digit b && t) (all_each l)

-- a text is not empty where it has at least one byte
pub some-long : (n : ℕ) → not (eqb n 0) ≡ leb 1 n
some-long zero = refl
some-long (suc n) = rw (ne_eqb (suc n) 0 (λ e. omega (arith, e)), le-leb 1 (suc n) (omega arith))

-- a number is read whole
pub number-all : (l : List ℕ) → is_numeral l ≡ true → number_upto most_digits l 0 ≡ value_of l
unfolding number_upto
number-all l e =
    let m = numeral l e in
    ap value_of (ap (λ (k : ℕ). take k l) (digits_last l m.digits m.few) ∙ take-length l)

-- a value does not fall with more digits
value_grows : (v : ℕ) (l : List ℕ) → v ≤ value_from v l
unfolding value_from
value_grows v [] = omega arith
value_grows v (b ∷ l) = omega (arith, value_grows (10 * v + (b - 48)) l)

pub value-some : (l : List ℕ) → Numeral l → 1 ≤ value_of l
unfolding value_from all_digits
value-some [] m = absurd (omega (arith, m.some))
value-some (b ∷ l) m =
    let d = digit-is b (and_parts (is_digit b) (all_digits l) m.digits).0 in
    ⊎_elim {C = 1 ≤ value_of (b ∷ l)}
    (λ (t : eqb b 48 ≡ true). absurd (m.first (eqb-true b 48 t)))
    (λ (t : eqb b 48 ≡ false). omega (arith, d.least, eqb-false b 48 t, value_grows (10 * 0 + (b - 48)) l))
    (cases_Bool (eqb b 48))

pub value-most : (l : List ℕ) → Numeral l → value_of l ≤ 99999
value-most l m =
    let b : value_of l < 10 ^ (0 + length l) = value-below 0 0 l m.digits (omega arith) in
    let p : 10 ^ (0 + length l) ≤ 100000 = pow-le-pow_right {n = 10} (omega arith) {i = 0 + length l} {j = 5} (omega (arith, m.few)) in
    omega arith
