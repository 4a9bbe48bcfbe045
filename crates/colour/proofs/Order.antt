-- The order of the numbers that are at least 0, by a natural number: `units_of f x` is x in units of the format's smallest value.
-- `<`, `<=` and `==` of such floats are `<`, `≤` and `≡` of their units, so the laws of an order, and of a rank, are those of ℕ.
-- Equal units are the same number, up to a zero's sign.
-- Assumes nothing.
use mathlib.Core.Path.{◌≡◌, refl, sym, ap, ◌∙◌, subst}
use mathlib.Core.Bool.{Bool, true, false, not, ◌&&◌, ◌||◌}
use Prim.Native.Nat.{ℕ, zero, suc, ◌+◌, ◌-◌, ◌*◌, ◌/◌, ◌%◌, ◌^◌, ◌≤◌, ◌<◌}
use native.Mathlib.Nat.{mul-pos, mul_comm, mul_assoc, mul_left_comm, mul-le-mul_right, mul-lt-mul_of_pos_right, le_of_mul-le-mul_right}
use native.Mathlib.Nat.{lt_of_mul-lt-mul_right, eq_of_mul-eq-mul_right, le_trans, le_of_suc-le-suc, not-le_of_lt, lt_of_not-le, div-one}
use native.Mathlib.Nat.{one-mul, mul-div_cancel_left, le_of_eq}
use native.Mathlib.Omega.{arith}
use lib.IntN.{ℤ, pos, negsuc}
use lib.Dec.{T, ltb, leb, eqb, leb→le, eqb→eq}
use borrow.Author.Tests.{lt-ltb, le-ltb, eq-eqb, ne_eqb, ltb-true, ltb-false, eqb-true, eqb-false}
use lib.Pow.{pow_pos, pow-add, pow-lt, pow_mono}
use lib.Ieee.{Float, nan, inf, fin, Format, up, down, low, prec, emax, lt, eq, le, fits}
use lib.Ieee.Fits.{up_pos, down_pos, and_l, and_r}
use Rattle.colour.proofs.Compare.{lt-or-eq}
use Rattle.colour.proofs.Zero.{plus0, plus0-cases, lt-left, lt-right, eq-left, eq-right}

-- x in units of the format's smallest value
abbrev pub units_of : Format → Float → ℕ
units_of f nan = 0
units_of f (inf s) = 0
units_of f (fin s m e) = m * up e * (2 ^ low f / down e)

-- a number, and at least 0
abbrev pub nonneg : Float → Bool
nonneg nan = false
nonneg (inf s) = false
nonneg (fin s m e) = not s || eqb m 0

-- ---- the smallest value divides each value
power_le : (j l : ℕ) → 2 ^ j ≤ 2 ^ l → j ≤ l
power_le j l h = le_of_suc-le-suc (lt_of_not-le (λ (g : suc l ≤ j). not-le_of_lt (pow-lt g) h))

back : (j l : ℕ) → j ≤ l → j + (l - j) ≡ l
back j l h = omega arith

divides : (j l : ℕ) → 2 ^ j ≤ 2 ^ l → 2 ^ j * (2 ^ l / 2 ^ j) ≡ 2 ^ l
divides j l h =
    let e : 2 ^ l ≡ 2 ^ j * 2 ^ (l - j) = ap (λ (k : ℕ). 2 ^ k) (sym (back j l (power_le j l h))) ∙ pow-add 2 j (l - j) in
    ap (λ (k : ℕ). 2 ^ j * (k / 2 ^ j)) e ∙ ap (λ (k : ℕ). 2 ^ j * k) (mul-div_cancel_left (2 ^ (l - j)) (pow_pos j)) ∙ sym e

pub down-divides : (e : ℤ) (l : ℕ) → down e ≤ 2 ^ l → down e * (2 ^ l / down e) ≡ 2 ^ l
down-divides (pos k) l h = one-mul (2 ^ l / 1) ∙ div-one (2 ^ l)
down-divides (negsuc k) l h = divides (suc k) l h

two-factors : (a b : ℕ) → 0 < a → a * b ≡ 1 → b ≤ 1
two-factors a b p e = le_trans (le_of_eq (sym (one-mul b))) (le_trans (mul-le-mul_right b p) (le_of_eq e))

-- a value of the format is a whole number of its smallest values
pub down_le : (f : Format) (s : Bool) (m : ℕ) (e : ℤ) → T (fits f (fin s m e)) → down e ≤ 2 ^ low f
unfolding fits
down_le f s zero e t =
    le_trans (two-factors (up e) (down e) (up_pos e) (eqb→eq (up e * down e) 1 t)) (pow_mono {i = 0} {j = low f} (omega arith))
down_le f s (suc m) e t =
    leb→le (down e) (2 ^ low f)
    (and_r (eqb (suc m % 2) 1 && ltb (suc m) (2 ^ prec f)) (leb (down e) (2 ^ low f))
    (and_l (eqb (suc m % 2) 1 && ltb (suc m) (2 ^ prec f) && leb (down e) (2 ^ low f)) (ltb (suc m * up e) (2 ^ suc (emax f) * down e)) t))

-- ---- the two tests on scaled numbers
module _ (a b u v p q : ℕ) (P : 0 < p) (Q : 0 < q) (x : a * p ≡ u * q) (y : b * p ≡ v * q) where
  ltb-scale : ltb a b ≡ ltb u v
  ltb-scale = go (ltb u v) refl
    where
      go : (t : Bool) → ltb u v ≡ t → ltb a b ≡ ltb u v
      go true e = lt-ltb a b (lt_of_mul-lt-mul_right p (rw (x, y) (mul-lt-mul_of_pos_right (ltb-true u v e) Q))) ∙ sym e
      go false e = le-ltb a b (le_of_mul-le-mul_right (rw (x, y) (mul-le-mul_right q (ltb-false u v e))) P) ∙ sym e

  eqb-scale : eqb a b ≡ eqb u v
  eqb-scale = go (eqb u v) refl
    where
      go : (t : Bool) → eqb u v ≡ t → eqb a b ≡ eqb u v
      go true e = eq-eqb a b (eq_of_mul-eq-mul_right p P a b (x ∙ ap (λ (k : ℕ). k * q) (eqb-true u v e) ∙ sym y)) ∙ sym e
      go false e =
          ne_eqb a b (λ (h : a ≡ b). eqb-false u v e (eq_of_mul-eq-mul_right q Q u v (sym x ∙ ap (λ (k : ℕ). k * p) h ∙ y))) ∙ sym e

regroup : (m u dd de qe : ℕ) → m * u * dd * (de * qe) ≡ m * u * qe * (dd * de)
regroup m u dd de qe = simp (mul_assoc, mul_comm, mul_left_comm)

module _ (f : Format) (s t : Bool) (m : ℕ) (e : ℤ) (n : ℕ) (d : ℤ) (A : T (fits f (fin s m e))) (B : T (fits f (fin t n d))) where
  scaled-left : m * up e * down d * 2 ^ low f ≡ units_of f (fin s m e) * (down d * down e)
  scaled-left =
      ap (λ (k : ℕ). m * up e * down d * k) (sym (down-divides e (low f) (down_le f s m e A)))
      ∙ regroup m (up e) (down d) (down e) (2 ^ low f / down e)

  scaled-right : n * up d * down e * 2 ^ low f ≡ units_of f (fin t n d) * (down d * down e)
  scaled-right =
      ap (λ (k : ℕ). n * up d * down e * k) (sym (down-divides d (low f) (down_le f t n d B)))
      ∙ regroup n (up d) (down e) (down d) (2 ^ low f / down d)
      ∙ ap (λ (k : ℕ). units_of f (fin t n d) * k) (mul_comm (down e) (down d))

  lt-cross : ltb (m * up e * down d) (n * up d * down e) ≡ ltb (units_of f (fin s m e)) (units_of f (fin t n d))
  lt-cross = ltb-scale _ _ _ _ (2 ^ low f) (down d * down e) (pow_pos (low f)) (mul-pos (down_pos d) (down_pos e)) scaled-left scaled-right

  eq-cross : eqb (m * up e * down d) (n * up d * down e) ≡ eqb (units_of f (fin s m e)) (units_of f (fin t n d))
  eq-cross = eqb-scale _ _ _ _ (2 ^ low f) (down d * down e) (pow_pos (low f)) (mul-pos (down_pos d) (down_pos e)) scaled-left scaled-right

-- ---- with the sign cleared
pub plus0-units : (f : Format) (x : Float) → units_of f (plus0 x) ≡ units_of f x
plus0-units f = plus0-cases (λ a b. units_of f b ≡ units_of f a) (λ a. refl) (λ s e. refl)

pub plus0-fits : (f : Format) (x : Float) → T (fits f x) → T (fits f (plus0 x))
unfolding fits
plus0-fits f = plus0-cases (λ a b. T (fits f a) → T (fits f b)) (λ a t. t) (λ s e t. t)

-- x is m * 2 ^ e with the sign clear
pub data Plain : Float → Type 0 where
  plain : (m : ℕ) (e : ℤ) → Plain (fin false m e)

suc-not : (m : ℕ) → eqb (suc m) 0 ≡ false
suc-not m = ne_eqb (suc m) 0 (λ e. omega arith)

pub plus0-plain : (x : Float) → T (nonneg x) → Plain (plus0 x)
unfolding plus0
plus0-plain nan t = absurd t
plus0-plain (inf s) t = absurd t
plus0-plain (fin s zero e) t = plain zero e
plus0-plain (fin false (suc m) e) t = plain (suc m) e
plus0-plain (fin true (suc m) e) t = absurd (subst T (suc-not m) t)

plain-lt : (f : Format) (x y : Float) → Plain x → Plain y → T (fits f x) → T (fits f y) → lt x y ≡ ltb (units_of f x) (units_of f y)
unfolding lt
plain-lt f _ _ (plain m e) (plain n d) a b = lt-cross f false false m e n d a b

and-true : (b : Bool) → b && true ≡ b
and-true true = refl
and-true false = refl

plain-eq : (f : Format) (x y : Float) → Plain x → Plain y → T (fits f x) → T (fits f y) → eq x y ≡ eqb (units_of f x) (units_of f y)
unfolding eq
plain-eq f _ _ (plain m e) (plain n d) a b = and-true (eqb (m * up e * down d) (n * up d * down e)) ∙ eq-cross f false false m e n d a b

module _ (f : Format) (x y : Float) (a : T (fits f x)) (b : T (fits f y)) (p : T (nonneg x)) (q : T (nonneg y)) where
  pub lt-units : lt x y ≡ ltb (units_of f x) (units_of f y)
  lt-units =
      lt-left x y ∙ lt-right (plus0 x) y
      ∙ plain-lt f (plus0 x) (plus0 y) (plus0-plain x p) (plus0-plain y q) (plus0-fits f x a) (plus0-fits f y b)
      ∙ rw (plus0-units f x, plus0-units f y)

  pub eq-units : eq x y ≡ eqb (units_of f x) (units_of f y)
  eq-units =
      eq-left x y ∙ eq-right (plus0 x) y
      ∙ plain-eq f (plus0 x) (plus0 y) (plus0-plain x p) (plus0-plain y q) (plus0-fits f x a) (plus0-fits f y b)
      ∙ rw (plus0-units f x, plus0-units f y)

  pub le-units : le x y ≡ leb (units_of f x) (units_of f y)
  unfolding le
  le-units = rw (lt-units, eq-units) (lt-or-eq (units_of f x) (units_of f y))
