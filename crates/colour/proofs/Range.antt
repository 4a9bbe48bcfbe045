-- Numbers from 0 to 1: each is finite, a difference of two is no NaN, and every entry of a list in range is in range. So closeness
-- is three tests, one for each channel.
-- Assumes nothing.
use mathlib.Core.Path.{◌≡◌, refl, sym, ap, ◌∙◌, subst}
use mathlib.Core.Bool.{Bool, true, false, not, ◌&&◌, beq, cond, and_assoc, and-true}
use mathlib.Core.List.{List, [], ◌∷◌, ◌++◌}
use Prim.Native.Nat.{ℕ, zero, suc, ◌+◌, ◌*◌, ◌^◌, ◌<◌}
use native.Mathlib.Nat.{le_of_suc-le-suc, not-suc-le-zero}
use native.Mathlib.Omega.{arith}
use lib.Dec.{T, ltb}
use lib.ListN.{length, get_or}
use lib.Ieee.{Float, nan, inf, fin, Format, binary64, up, down, low, prec, emax, neg, add, sub, sum, round, units, odd, lt, le, eq, is_nan}
use lib.Ieee.Bits.{is_true}
use lib.Ieee.Fits.{and_l, and_r}
use lib.Ieee.Scale.{finite}
use Rattle.std.specs.Prelude.{fold}
use Rattle.colour.specs.declared.Rgb.{Rgb}
use Rattle.colour.specs.Number.{zero64, abs_of, larger}
use Rattle.colour.specs.Colour.{difference_of, close_to, colour_ok, colours_ok, rgb_ok}
use Rattle.colour.specs.steps.Range.{InRange}
use Rattle.colour.proofs.Compare.{larger-le, larger-number}

-- a test that is true, and back
pub is : (b : Bool) → b ≡ true → T b
is b e = subst T (sym e) tt

-- ---- a number in range is finite
pub ok-finite : (x : Float) → T (colour_ok x) → T (finite x)
unfolding colour_ok le lt eq
ok-finite nan t = t
ok-finite (inf true) t = t
ok-finite (inf false) t = t
ok-finite (fin s m e) t = tt

-- ---- no operation here gives a NaN
number : Float → Type 0
number x = T (not (is_nan x))

odd_number : (d : ℕ) (s : Bool) (q k l : ℕ) → number (odd d s q k l)
unfolding number odd is_nan
odd_number d s zero k l = tt
odd_number d s (suc q) k l = tt

cond-number : (b : Bool) (x y : Float) → number x → number y → number (cond b x y)
cond-number true x y p q = p
cond-number false x y p q = q

units_number : (f : Format) (s : Bool) (q k : ℕ) → number (units f s q k)
unfolding units number is_nan
units_number f s q k = cond-number (ltb (q * 2 ^ k) (2 ^ (low f + suc (emax f)))) _ _ (odd_number (suc (prec f)) s q k (low f)) tt

round_number : (f : Format) (s : Bool) (a c : ℕ) → number (round f s a c)
unfolding round
round_number f s a c = units_number f s _ _

sum_number : (f : Format) (s : Bool) (a : ℕ) (t : Bool) (b c : ℕ) → number (sum f s a t b c)
unfolding sum
sum_number f s a t b c =
    cond-number (beq s t) _ _ (round_number f s _ c) (cond-number (ltb a b) _ _ (round_number f t _ c) (round_number f _ _ c))

pub sub_number : (f : Format) (x y : Float) → T (finite x) → T (finite y) → T (not (is_nan (sub f x y)))
unfolding sub add neg number
sub_number f nan y a b = absurd a
sub_number f (inf s) y a b = absurd a
sub_number f (fin s m e) nan a b = absurd b
sub_number f (fin s m e) (inf t) a b = absurd b
sub_number f (fin s m e) (fin t n d) a b = sum_number f s (m * up e * down d) (not t) (n * up d * down e) (down e * down d)

neg-number : (x : Float) → number x → number (neg x)
unfolding neg number is_nan
neg-number nan t = t
neg-number (inf s) t = tt
neg-number (fin s m e) t = tt

pub abs-number : (x : Float) → T (not (is_nan x)) → T (not (is_nan (abs_of x)))
unfolding abs_of number
abs-number x t = cond-number (lt x zero64) (neg x) x (neg-number x t) t

-- ---- closeness of two colours in range is three tests
three : (a b c : Bool) → a && b && c ≡ true → (T a) × (T b) × (T c)
three true true true e = (tt, tt, tt)
three true true false e = absurd (subst T (sym e) tt)
three true false c e = absurd (subst T (sym e) tt)
three false b c e = absurd (subst T (sym e) tt)

-- the channels of a colour in range
pub channels : (p : Rgb) → rgb_ok p ≡ true → (T (colour_ok p.r)) × (T (colour_ok p.g)) × (T (colour_ok p.b))
unfolding rgb_ok
channels p e = three (colour_ok p.r) (colour_ok p.g) (colour_ok p.b) e

-- a colour whose channels are in range
pub rgb-from : (p : Rgb) → colour_ok p.r ≡ true → colour_ok p.g ≡ true → colour_ok p.b ≡ true → rgb_ok p ≡ true
unfolding rgb_ok
rgb-from p r g b = rw (r, g, b)

channel : (x y : Float) → T (colour_ok x) → T (colour_ok y) → T (not (is_nan (abs_of (sub binary64 x y))))
channel x y t u = abs-number (sub binary64 x y) (sub_number binary64 x y (ok-finite x t) (ok-finite y u))

pub close-tests : (p q : Rgb) → InRange p q → (tolerance : Float)
    → close_to tolerance q p
    ≡ le (abs_of (sub binary64 p.r q.r)) tolerance
    && le (abs_of (sub binary64 p.g q.g)) tolerance
    && le (abs_of (sub binary64 p.b q.b)) tolerance
unfolding close_to difference_of
close-tests p q h t =
    let i = channels p h.first in
    let j = channels q h.second in
    let a = channel p.r q.r i.0 j.0 in
    let b = channel p.g q.g i.1 j.1 in
    let dr = abs_of (sub binary64 p.r q.r) in
    let dg = abs_of (sub binary64 p.g q.g) in
    let db = abs_of (sub binary64 p.b q.b) in
    larger-le (larger dr dg) db (larger-number dr dg a b) (channel p.b q.b i.2 j.2) t
    ∙ ap (λ (k : Bool). k && le db t) (larger-le dr dg a b t)

-- ---- lists

-- every entry of a list in range is in range
pub colours-at : (l : List Float) → colours_ok l ≡ true → (i : ℕ) → i < length l → colour_ok (get_or l i nan) ≡ true
unfolding colours_ok
colours-at [] e i h = absurd (not-suc-le-zero h)
colours-at (x ∷ l) e zero h = is_true _ (and_l (colour_ok x) (colours_ok l) (is _ e))
colours-at (x ∷ l) e (suc i) h = colours-at l (is_true _ (and_r (colour_ok x) (colours_ok l) (is _ e))) i (le_of_suc-le-suc h)

-- a list whose entries are all in range is in range
pub colours-all : (l : List Float) → ((i : ℕ) → i < length l → colour_ok (get_or l i nan) ≡ true) → colours_ok l ≡ true
unfolding colours_ok
colours-all [] h = refl
colours-all (x ∷ l) h = rw (h 0 (omega arith), colours-all l (λ i k. h (suc i) (omega arith)))

-- a fold along a list tests it
pub colours-fold : (ok : Bool) (l : List Float) → fold (λ (known : Bool) (x : Float). known && colour_ok x) ok l ≡ ok && colours_ok l
unfolding colours_ok
colours-fold ok [] = sym (and-true ok)
colours-fold ok (x ∷ l) = colours-fold (ok && colour_ok x) l ∙ and_assoc ok (colour_ok x) (colours_ok l)

-- two lists in a row are in range exactly when each is
pub colours-append : (l m : List Float) → colours_ok (l ++ m) ≡ colours_ok l && colours_ok m
unfolding colours_ok
colours-append [] m = refl
colours-append (x ∷ l) m = rw (colours-append l m) (sym (and_assoc (colour_ok x) (colours_ok l) (colours_ok m)))
