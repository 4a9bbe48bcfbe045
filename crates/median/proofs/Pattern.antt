-- The bit patterns of the numbers that are at least 0 have the numbers' order. `key x` is the pattern of x with a zero's sign
-- cleared: `<` and `<=` of such floats are `<` and `≤` of their keys, and a number is its key's float.
-- Assumes nothing.
use mathlib.Core.Path.{◌≡◌, refl, sym, ap, ◌∙◌, subst}
use mathlib.Core.Bool.{Bool, true, false, not}
use mathlib.Core.Logic.{◌⊎◌, inl, inr, ⊎_elim}
use Prim.Native.Nat.{ℕ, zero, suc, ◌+◌, ◌-◌, ◌*◌, ◌/◌, ◌%◌, ◌^◌, ◌≤◌, ◌<◌}
use native.Mathlib.Nat.{le_trans, le_of_lt, lt_of_le_of_lt, le-div_iff_mul-le, div-lt_iff_lt-mul, mod-eq_of_lt, mod-le, div-mul-le_self}
use native.Mathlib.Nat.{mul-div_cancel, mul_assoc, mul_comm, mul-pos, zero-add, eq-or-lt_of_le, le_of_eq, suc-mul, mul-le-mul_right}
use native.Mathlib.Omega.{arith}
use lib.IntN.{ℤ, pos}
use lib.Dec.{T, ltb, leb, eqb, eqb→eq}
use lib.Pow.{pow_pos, pow-add}
use lib.Ieee.{Float, nan, inf, fin, Format, binary64, up, down, low, prec, hid, ones, top, size, odd, of_fields, of_bits, to_bits, lt, le}
use lib.Ieee.{eq, fits, nan_bits}
use lib.Ieee.Bits.{of_bits-to_bits, of_bits-fits, to_bits-of_bits, nan_bits_is, nan_bits_above, is_true}
use lib.Ieee.Digits.{size-lt, size_reaches, size-le}
use lib.Ieee.Fits.{two, up_pos, down_pos, kept-lt, and_l, and_r}
use borrow.Author.Tests.{ne_eqb, lt-ltb, le-ltb, le-leb, lt-leb, ltb-true, ltb-false, leb-true, leb-false}
use Rattle.colour.specs.Number.{zero64, one64}
use Rattle.colour.specs.Colour.{colour_ok}
use Rattle.colour.proofs.Zero.{plus0, Alike}
use Rattle.colour.proofs.Order.{units_of, nonneg, lt-units, le-units, down-divides, down_le, plus0-units, plus0-fits, plus0-plain, Plain}
use Rattle.colour.proofs.Order.{plain}

-- ---- the pattern of n units of the smallest value
pattern : Format → ℕ → ℕ
pattern f n = (size n - prec f) * hid f + n / 2 ^ (size n - prec f)

size_mono : (a b : ℕ) → a ≤ b → size a ≤ size b
size_mono a b h = size-le a (size b) (lt_of_le_of_lt h (size-lt b))

div_mono : (a b k : ℕ) → 0 < k → a ≤ b → a / k ≤ b / k
div_mono a b k K h = (le-div_iff_mul-le {k = k} {x = a / k} {y = b} K).1 (le_trans (div-mul-le_self a k) h)

same_drop : (f : Format) (a b k j : ℕ) → k ≡ j → a ≤ b → k * hid f + a / 2 ^ k ≤ j * hid f + b / 2 ^ j
same_drop f a b k j e h = rw e (let d = div_mono a b (2 ^ j) (pow_pos j) h in omega arith)

more-drop : (k j h p q : ℕ) → k < j → p < h + h → h ≤ q → k * h + p ≤ j * h + q
more-drop k j h p q l a b = let e : k * h + h ≤ j * h = subst (λ (x : ℕ). x ≤ j * h) (suc-mul k h) (mul-le-mul_right h l) in omega arith

twice : (f : Format) → 2 ^ prec f ≡ hid f + hid f
twice lib.Ieee.binary32 = refl
twice lib.Ieee.binary64 = refl

-- a number of more digits than are kept has the leading digit kept
leading : (f : Format) (b : ℕ) → 0 < size b - prec f → hid f ≤ b / 2 ^ (size b - prec f)
leading f b h =
    let k = size b - prec f in
    let p2 : 2 ≤ prec f = two f in
    let j : k + (prec f - 1) < size b = omega arith in
    (le-div_iff_mul-le {k = 2 ^ k} {x = hid f} {y = b} (pow_pos k)).1
    (le_trans (le_of_eq (mul_comm (hid f) (2 ^ k) ∙ sym (pow-add 2 k (prec f - 1)))) (size_reaches b (k + (prec f - 1)) j))

pattern-mono : (f : Format) (a b : ℕ) → a ≤ b → pattern f a ≤ pattern f b
unfolding pattern
pattern-mono f a b h =
    let s = size_mono a b h in
    let k = size a - prec f in
    let j = size b - prec f in
    let small : a / 2 ^ k < hid f + hid f = rw (twice f) at (kept-lt (prec f) a) in
    let step : k ≤ j = omega arith in
    ⊎_elim (λ e. same_drop f a b k j e h) (λ l. more-drop k j (hid f) _ _ l small (leading f b (omega arith))) (eq-or-lt_of_le step)

-- ---- the key of a number that is at least 0
unfoldable pub key : Float → ℕ
key x = to_bits binary64 (plus0 x)

-- in whole units there is nothing to round
whole : (a d q l : ℕ) → 0 < d → d * q ≡ l → a * l / d ≡ a * q
whole a d q l D e =
    ap (λ (k : ℕ). a * k / d) (sym e ∙ mul_comm d q) ∙ ap (λ (k : ℕ). k / d) (sym (mul_assoc a q d)) ∙ mul-div_cancel (a * q) D

plain-key : (x : Float) → Plain x → T (fits binary64 x) → to_bits binary64 x ≡ pattern binary64 (units_of binary64 x)
unfolding to_bits pattern
plain-key _ (plain m e) t =
    let exact = down-divides e (low binary64) (down_le binary64 false m e t) in
    ap (λ (n : ℕ). 0 + (size n - 53) * hid binary64 + n / 2 ^ (size n - 53)) (whole (m * up e) (down e) _ _ (down_pos e) exact)
    ∙ ap (λ (k : ℕ). k + units_of binary64 (fin false m e) / 2 ^ (size (units_of binary64 (fin false m e)) - 53)) (zero-add _)

key-pattern : (x : Float) → T (fits binary64 x) → T (nonneg x) → key x ≡ pattern binary64 (units_of binary64 x)
unfolding key
key-pattern x t p = plain-key (plus0 x) (plus0-plain x p) (plus0-fits binary64 x t) ∙ ap (pattern binary64) (plus0-units binary64 x)

-- a number is its key's float, with a zero's sign cleared
pub key_back : (x : Float) → T (fits binary64 x) → of_bits binary64 (key x) ≡ plus0 x
unfolding key
key_back x t = of_bits-to_bits binary64 (plus0 x) (plus0-fits binary64 x t)

pub key-alike : (x y : Float) → T (fits binary64 x) → T (fits binary64 y) → key x ≡ key y → Alike x y
key-alike x y a b e = sym (key_back x a) ∙ ap (of_bits binary64) e ∙ key_back y b

pub alike-key : (x y : Float) → Alike x y → key x ≡ key y
unfolding key
alike-key x y e = ap (to_bits binary64) e

-- a value of the format that is at least 0: -0 is
pub record Good (x : Float) : Type 0 where
  pub held : T (fits binary64 x)
  pub from_zero : T (nonneg x)

module _ (x y : Float) (g : Good x) (h : Good y) where
  key-mono : units_of binary64 x ≤ units_of binary64 y → key x ≤ key y
  key-mono l = rw (key-pattern x g.held g.from_zero, key-pattern y h.held h.from_zero) (pattern-mono binary64 _ _ l)

  key-units : key x ≡ key y → units_of binary64 x ≡ units_of binary64 y
  key-units e = sym (plus0-units binary64 x) ∙ ap (units_of binary64) (key-alike x y g.held h.held e) ∙ plus0-units binary64 y

  key-strict : units_of binary64 x < units_of binary64 y → key x < key y
  key-strict l = go (eq-or-lt_of_le (key-mono (le_of_lt l)))
    where
      go : (key x ≡ key y) ⊎ (key x < key y) → key x < key y
      go (inl e) = absurd (let z = key-units e in omega arith)
      go (inr i) = i

module _ (x y : Float) (g : Good x) (h : Good y) where
  pub lt-key : lt x y ≡ ltb (key x) (key y)
  lt-key = lt-units binary64 x y g.held h.held g.from_zero h.from_zero ∙ go (ltb (units_of binary64 x) (units_of binary64 y)) refl
    where
      go : (b : Bool) → ltb (units_of binary64 x) (units_of binary64 y) ≡ b → b ≡ ltb (key x) (key y)
      go true e = sym (lt-ltb _ _ (key-strict x y g h (ltb-true _ _ e)))
      go false e = sym (le-ltb _ _ (key-mono y x h g (ltb-false _ _ e)))

  pub le-key : le x y ≡ leb (key x) (key y)
  le-key = le-units binary64 x y g.held h.held g.from_zero h.from_zero ∙ go (leb (units_of binary64 x) (units_of binary64 y)) refl
    where
      go : (b : Bool) → leb (units_of binary64 x) (units_of binary64 y) ≡ b → b ≡ leb (key x) (key y)
      go true e = sym (le-leb _ _ (key-mono x y g h (leb-true _ _ e)))
      go false e = sym (lt-leb _ _ (key-strict y x h g (leb-false _ _ e)))

-- ---- patterns from 0 to that of 1
abbrev pub one_bits : ℕ
one_bits = 0x3ff0_0000_0000_0000

odd-plain : (d q k l : ℕ) → Plain (odd d false q k l)
unfolding odd
odd-plain d zero k l = plain zero (pos 0)
odd-plain d (suc q) k l = plain _ _

fields-plain : (x t : ℕ) → x < 2047 → Plain (of_fields binary64 false x t)
unfolding of_fields
fields-plain zero t h = odd-plain 53 t 0 (low binary64)
fields-plain (suc x) t h = rw (ne_eqb (suc x) 2047 (λ e. omega arith)) (odd-plain 53 (hid binary64 + t) x (low binary64))

bits-plain : (v : ℕ) → v ≤ one_bits → Plain (of_bits binary64 v)
unfolding of_bits
bits-plain v small =
    let m : v % top binary64 ≡ v = mod-eq_of_lt (omega arith) in
    let h = hid binary64 in
    let n = (div-lt_iff_lt-mul {k = h} {x = v} {y = 2047} (pow_pos 52)).1 (omega arith) in
    rw (lt-leb (top binary64) v (omega arith), m) (fields-plain (v / h) (v % h) n)

plain-plus0 : (x : Float) → Plain x → plus0 x ≡ x
unfolding plus0
plain-plus0 _ (plain zero e) = refl
plain-plus0 _ (plain (suc m) e) = refl

plain-nonneg : (x : Float) → Plain x → T (nonneg x)
plain-nonneg _ (plain m e) = tt

pub bits-good : (v : ℕ) → v ≤ one_bits → Good (of_bits binary64 v)
bits-good v h = record { held = of_bits-fits binary64 v; from_zero = plain-nonneg (of_bits binary64 v) (bits-plain v h) }

pub bits-number : (v : ℕ) → v ≤ one_bits → nan_bits binary64 v ≡ false
bits-number v h =
    nan_bits_above binary64 v ∙ le-ltb (ones binary64 * hid binary64) (v % top binary64) (le_trans (mod-le v (top binary64)) (omega arith))

-- a pattern is the key of its float
pub key-bits : (v : ℕ) → v ≤ one_bits → key (of_bits binary64 v) ≡ v
unfolding key
key-bits v h =
    ap (to_bits binary64) (plain-plus0 _ (bits-plain v h))
    ∙ to_bits-of_bits binary64 v (omega arith) (subst (λ (b : Bool). T (not b)) (sym (sym (nan_bits_is binary64 v) ∙ bits-number v h)) tt)

-- a number with a zero's sign cleared has the number's key
pub plus0-good : (x : Float) → Good x → Good (plus0 x)
plus0-good x g = record { held = plus0-fits binary64 x g.held; from_zero = plain-nonneg (plus0 x) (plus0-plain x g.from_zero) }

-- ---- the numbers from 0 to 1
pub key_one : key one64 ≡ one_bits
unfolding key plus0 to_bits
key_one = refl

pub one-good : Good one64
unfolding fits
one-good = record { held = tt; from_zero = tt }

not-below : (m : ℕ) (e : ℤ) → T (le zero64 (fin true (suc m) e)) → ⊥
unfolding le lt eq
not-below m e t =
    let a = 0 * up (pos 0) * down e in
    let b = suc m * up e * down (pos 0) in
    let z : a ≡ b = eqb→eq a b (and_l (eqb a b) (eqb a 0) t) in
    let n : a ≡ 0 = eqb→eq a 0 (and_r (eqb a b) (eqb a 0) t) in
    let p : 0 < b = mul-pos (mul-pos (omega arith) (up_pos e)) (down_pos (pos 0)) in
    omega arith

pub between-nonneg : (x : Float) (n : ℕ) (d : ℤ) → T (le zero64 x) → T (le x (fin false n d)) → T (nonneg x)
unfolding le lt eq
between-nonneg nan n d t u = t
between-nonneg (inf true) n d t u = t
between-nonneg (inf false) n d t u = u
between-nonneg (fin false m e) n d t u = tt
between-nonneg (fin true zero e) n d t u = tt
between-nonneg (fin true (suc m) e) n d t u = absurd (not-below m e t)

pub between-one : (x : Float) → colour_ok x ≡ true → (T (le zero64 x)) × (T (le x one64))
unfolding colour_ok
between-one x e = let t = subst T (sym e) tt in (and_l (le zero64 x) (le x one64) t, and_r (le zero64 x) (le x one64) t)

module _ (x : Float) (a : T (fits binary64 x)) (k : colour_ok x ≡ true) where
  pub ok-good : Good x
  ok-good = let p = between-one x k in record { held = a; from_zero = between-nonneg x 1 (pos 0) p.0 p.1 }

  pub ok-key : key x ≤ one_bits
  ok-key =
      leb-true (key x) one_bits
      (ap (leb (key x)) (sym key_one) ∙ sym (le-key x one64 ok-good one-good) ∙ is_true (le x one64) (between-one x k).1)
