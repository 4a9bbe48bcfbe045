-- Reading and writing of decimal numbers: reading what was written gives the number back.
-- Assumes nothing.
use mathlib.Core.Path.{◌≡◌, refl, sym, ap, ◌∙◌}
use mathlib.Core.Bool.{Bool, true, false, cond}
use mathlib.Core.List.{List, [], ◌∷◌, ◌++◌}
use mathlib.Core.Logic.{⊎_elim}
use Prim.Native.Nat.{ℕ, zero, suc, ◌+◌, ◌-◌, ◌*◌, ◌/◌, ◌%◌, ◌^◌, ◌≤◌, ◌<◌, min}
use native.Mathlib.Nat.{add-zero, div-add-mod', pow-succ'}
use native.Mathlib.Numerals.{add-one}
use native.Mathlib.Omega.{arith}
use lib.Dec.{leb}
use lib.ListN.{length, get_or, take, drop, length-append, drop_of_length-le, get_or-eq_default}
use lib.Seq.{take-suc, drop-cons}
use borrow.Author.Tests.{le-leb, lt-leb, leb-true}
use Rattle.std.specs.Char.{is_ascii_digit}
use Rattle.std.specs.List.{prefix_len, take_while}
use Rattle.std.proofs.lemmas.List.{take_min}
use Rattle.std.proofs.lemmas.List.Folds.{length-prefix_len}
use Rattle.std.proofs.lemmas.Bool.{and_from, and_parts, cases_Bool, cases_lt}
use Rattle.text.specs.Decimal.{is_digit, all_digits, value_from, value_of, digits_upto, decimal_upto, decimal}

-- ---- digits

pub record Digit (b : ℕ) : Type 0 where
  pub least : 48 ≤ b
  pub most : b ≤ 57

pub digit-is : (b : ℕ) → is_digit b ≡ true → Digit b
unfolding is_digit
digit-is b e =
    let a = and_parts (leb 48 b) (leb b 57) e in
    record { least = leb-true 48 b a.0; most = leb-true b 57 a.1 }

module _ (text : List ℕ) where
  -- a digit stands inside the text
  pub digit-inside : (at : ℕ) → is_digit (get_or text at 0) ≡ true → at < length text
  digit-inside at e =
      ⊎_elim {C = at < length text}
      (λ (l : at < length text). l)
      (λ (l : length text ≤ at).
      let z : get_or text at 0 ≡ 0 = get_or-eq_default text 0 l in
      let d = digit-is (get_or text at 0) e in
      absurd (omega (arith, d.least)))
      (cases_lt at (length text))

  pub digits-most : (k at : ℕ) → digits_upto k text at ≤ k
  unfolding digits_upto
  digits-most zero at = omega arith
  digits-most (suc k) at = at-most (is_digit (get_or text at 0)) (digits_upto k text (suc at)) k (digits-most k (suc at))
    where
      at-most : (t : Bool) (a b : ℕ) → a ≤ b → cond t (suc a) 0 ≤ suc b
      at-most true a b l = omega arith
      at-most false a b l = omega arith

  pub digits-end : (k at : ℕ) → is_digit (get_or text at 0) ≡ false → digits_upto k text at ≡ 0
  unfolding digits_upto
  digits-end zero at d = refl
  digits-end (suc k) at d = rw d

  pub digits-past : (k at : ℕ) → length text ≤ at → digits_upto k text at ≡ 0
  unfolding is_digit
  digits-past k at l = digits-end k at (ap is_digit (get_or-eq_default text 0 l))

  -- what stands there: so many digits, all inside the text
  pub record Stand (k at : ℕ) : Type 0 where
    pub inside : 1 ≤ digits_upto k text at → at + digits_upto k text at ≤ length text
    pub all : all_digits (take (digits_upto k text at) (drop at text)) ≡ true

  pub stand : (k at : ℕ) → Stand k at
  unfolding digits_upto all_digits
  stand zero at = record { inside = λ l. absurd (omega arith); all = refl }
  stand (suc k) at =
      ⊎_elim {C = Stand (suc k) at}
      (λ (d : is_digit (get_or text at 0) ≡ true).
      let l = digit-inside at d in
      let r = stand k (suc at) in
      let n = digits_upto k text (suc at) in
      record {
        inside =
            λ g.
            rw d
            (⊎_elim {C = at + suc n ≤ length text}
            (λ (z : n < 1). omega arith)
            (λ (z : 1 ≤ n). let q = r.inside z in omega arith)
            (cases_lt n 1));
        all = rw (d, drop-cons text at 0 l) (and_from _ _ d r.all);
      })
      (λ (d : is_digit (get_or text at 0) ≡ false). record { inside = λ g. absurd (let z : 1 ≤ 0 = rw d at g in omega arith); all = rw d })
      (cases_Bool (is_digit (get_or text at 0)))

-- they are counted up to the first byte that is none
digits-front : (most : ℕ) (text : List ℕ) (at : ℕ) → digits_upto most text at ≡ prefix_len is_ascii_digit (take most (drop at text))
unfolding digits_upto is_digit
digits-front zero text at = refl
digits-front (suc most) text at =
    ⊎_elim {C = digits_upto (suc most) text at ≡ prefix_len is_ascii_digit (take (suc most) (drop at text))}
    (λ (l : at < length text).
    let b = get_or text at 0 in
    let rest = take most (drop (suc at) text) in
    rw (drop-cons text at 0 l, digits-front most text (suc at))
    (⊎_elim {C = cond (is_digit b) (suc (prefix_len is_ascii_digit rest)) 0 ≡ prefix_len is_ascii_digit (b ∷ rest)}
    (λ (d : is_digit b ≡ true). rw d (omega arith))
    (λ (d : is_digit b ≡ false). rw d)
    (cases_Bool (is_digit b))))
    (λ (l : length text ≤ at). rw (digits-past text (suc most) at l, drop_of_length-le text l))
    (cases_lt at (length text))

pub digits-counted : (most : ℕ) (text : List ℕ) (at n k : ℕ) → n ≡ min most (length (drop at text))
    → k ≡ length (take_while is_ascii_digit (take n (drop at text))) → k ≡ digits_upto most text at
digits-counted most text at n k e f =
    let rest = drop at text in
    let front : take n rest ≡ take most rest = ap (λ (m : ℕ). take m rest) e ∙ take_min most rest in
    f
    ∙ length-prefix_len is_ascii_digit (take n rest)
    ∙ ap (prefix_len is_ascii_digit) front
    ∙ sym (digits-front most text at)

-- ---- values

pub value-append : (v b : ℕ) (l : List ℕ) → value_from v (l ++ (b ∷ [])) ≡ 10 * value_from v l + (b - 48)
unfolding value_from
value-append v b [] = refl
value-append v b (a ∷ l) = value-append (10 * v + (a - 48)) b l

pub value-more : (l : List ℕ) (i : ℕ) → i < length l → value_of (take (i + 1) l) ≡ 10 * value_of (take i l) + (get_or l i 0 - 48)
value-more l i g = ap (λ (k : ℕ). value_of (take k l)) (add-one i) ∙ ap value_of (take-suc l i 0 g) ∙ value-append 0 (get_or l i 0) (take i l)

pub digit_at : (l : List ℕ) (i : ℕ) → all_digits l ≡ true → i < length l → is_digit (get_or l i 0) ≡ true
unfolding all_digits
digit_at [] i e g = absurd (omega arith)
digit_at (b ∷ l) zero e g = (and_parts (is_digit b) (all_digits l) e).0
digit_at (b ∷ l) (suc i) e g = digit_at l i (and_parts (is_digit b) (all_digits l) e).1 (omega arith)

-- i digits have a value below 10 ^ i
pub value-below : (v k : ℕ) (l : List ℕ) → all_digits l ≡ true → v < 10 ^ k → value_from v l < 10 ^ (k + length l)
unfolding value_from all_digits
value-below v k [] e g = rw (add-zero k) g
value-below v k (b ∷ l) e g =
    let a = and_parts (is_digit b) (all_digits l) e in
    let d = digit-is b a.0 in
    let s : k + suc (length l) ≡ suc k + length l = omega arith in
    let n : 10 * v + (b - 48) < 10 ^ suc k = rw (pow-succ' 10 k) (omega (arith, d.most)) in
    rw s (value-below (10 * v + (b - 48)) (suc k) l a.1 n)

-- ---- a number written

tenth-less : (n k : ℕ) → 10 ≤ n → n ≤ suc k → n / 10 ≤ k
tenth-less n k l g = omega (arith, div-add-mod' n 10)

-- more steps give the same digits
enough : (k m n : ℕ) → n ≤ k → n ≤ m → decimal_upto k n ≡ decimal_upto m n
unfolding decimal_upto
enough zero zero n a b = refl
enough zero (suc m) n a b = rw (lt-leb 10 n (omega arith))
enough (suc k) zero n a b = rw (lt-leb 10 n (omega arith))
enough (suc k) (suc m) n a b =
    ⊎_elim {C = decimal_upto (suc k) n ≡ decimal_upto (suc m) n}
    (λ (l : n < 10). rw (lt-leb 10 n l))
    (λ (l : 10 ≤ n). rw (le-leb 10 n l, enough k m (n / 10) (tenth-less n k l a) (tenth-less n m l b)))
    (cases_lt n 10)

pub decimal-one : (n : ℕ) → n < 10 → decimal n ≡ (48 + n) ∷ []
unfolding decimal decimal_upto
decimal-one n l = one n
  where
    one : (k : ℕ) → decimal_upto k n ≡ (48 + n) ∷ []
    one zero = refl
    one (suc k) = rw (lt-leb 10 n l)

pub decimal-more : (n : ℕ) → 10 ≤ n → decimal n ≡ decimal (n / 10) ++ ((48 + n % 10) ∷ [])
unfolding decimal decimal_upto
decimal-more zero l = absurd (omega arith)
decimal-more (suc n) l =
    let g : suc n / 10 ≤ n = tenth-less (suc n) n l (omega arith) in
    rw (le-leb 10 (suc n) l, enough n (suc n / 10) (suc n / 10) g (omega arith))

pub length_more : (n : ℕ) → 10 ≤ n → length (decimal n) ≡ length (decimal (n / 10)) + 1
length_more n l = ap length (decimal-more n l) ∙ length-append (decimal (n / 10)) ((48 + n % 10) ∷ [])

-- what holds of numbers below 10, and of a number where it holds of its tenth, holds of all
by-tenths : (P : ℕ → Type 0) → ((n : ℕ) → n < 10 → P n) → ((n : ℕ) → 10 ≤ n → P (n / 10) → P n) → (n : ℕ) → P n
by-tenths P one more n = upto n n (omega arith)
  where
    upto : (k n : ℕ) → n ≤ k → P n
    upto zero n g = one n (omega arith)
    upto (suc k) n g =
        ⊎_elim {C = P n} (λ (l : n < 10). one n l) (λ (l : 10 ≤ n). more n l (upto k (n / 10) (tenth-less n k l g))) (cases_lt n 10)

-- reading what was written gives the number back
pub decimal-value : (n : ℕ) → value_of (decimal n) ≡ n
unfolding value_from
decimal-value = by-tenths (λ (n : ℕ). value_of (decimal n) ≡ n) value-one value-tenth
  where
    value-one : (n : ℕ) → n < 10 → value_of (decimal n) ≡ n
    value-one n l = ap value_of (decimal-one n l) ∙ value-append 0 (48 + n) [] ∙ (let e : 10 * 0 + ((48 + n) - 48) ≡ n = omega arith in e)

    value-tenth : (n : ℕ) → 10 ≤ n → value_of (decimal (n / 10)) ≡ n / 10 → value_of (decimal n) ≡ n
    value-tenth n l e =
        ap value_of (decimal-more n l) ∙ value-append 0 (48 + n % 10) (decimal (n / 10)) ∙ omega (arith, e, div-add-mod' n 10)

-- a number below 10 ^ k has at most k digits
abbrev Short : ℕ → Type 0
Short n = (k : ℕ) → n < 10 ^ suc k → length (decimal n) ≤ suc k

short-tenth : (n : ℕ) → 10 ≤ n → Short (n / 10) → Short n
short-tenth n l r zero g = absurd (let z : n < 10 = g in omega arith)
short-tenth n l r (suc k) g =
    let s : n < 10 * 10 ^ suc k = rw (pow-succ' 10 (suc k)) at g in
    rw (length_more n l) (omega (arith, r k (omega (arith, div-add-mod' n 10))))

pub decimal-short : (n : ℕ) → Short n
decimal-short = by-tenths Short (λ n l k g. rw (decimal-one n l) (omega arith)) short-tenth
