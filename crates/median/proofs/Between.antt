-- Half of the sum of two numbers from 0 to 1 is from 0 to 1: rounding keeps order, and 0, 1 and 2 are values of the format.
-- Assumes nothing.
use mathlib.Core.Path.{◌≡◌, refl, sym, ap, ◌∙◌, subst}
use mathlib.Core.Bool.{Bool, true, false, ◌||◌, and-true}
use Prim.Native.Nat.{ℕ, ◌*◌, ◌≤◌, ◌<◌}
use native.Mathlib.Nat.{mul-one, zero-mul, mul_comm, mul-pos, mul-le-mul_right}
use native.Mathlib.Omega.{arith}
use lib.IntN.{ℤ, pos}
use lib.Dec.{T, ltb, eqb, leb→le}
use lib.Ieee.{Float, fin, binary64, up, down, add, div, sum, round, lt, le, eq}
use lib.Ieee.Bits.{is_true}
use lib.Ieee.Fits.{up_pos, down_pos, and_i, div-fits}
use lib.Ieee.Order.{round_mono}
use Rattle.colour.specs.Number.{zero64, one64, two64, plus_zero, half_of}
use Rattle.colour.specs.Colour.{colour_ok}
use Rattle.colour.proofs.Compare.{lt-or-eq}
use Rattle.colour.proofs.Order.{Plain, plain, nonneg, plus0-plain}
use Rattle.colour.proofs.Zero.{plus0, plus0-plus0, Alike, le-alike, add-alike, div-alike, plus-zero-is}
use Rattle.median.proofs.Pattern.{between-nonneg}

-- what `<=` says of two fractions
cross : (m : ℕ) (e : ℤ) (n : ℕ) (d : ℤ) → T (le (fin false m e) (fin false n d)) → m * up e * down d ≤ n * up d * down e
unfolding le lt eq
cross m e n d t =
    let a = m * up e * down d in
    let b = n * up d * down e in
    leb→le a b (subst T (ap (λ (i : Bool). ltb a b || i) (and-true (eqb a b)) ∙ lt-or-eq a b) t)

-- a number is from 0 to k
abbrev pub Within : Float → Float → Type 0
Within k z = T (le zero64 z) × T (le z k)

within-alike : (k x y : Float) → Alike x y → Within k x → Within k y
within-alike k x y e h = (subst T (le-alike zero64 zero64 x y refl e) h.0, subst T (le-alike x y k k e refl) h.1)

-- a fraction from 0 to k rounds to a number from 0 to k
round-within : (k a c : ℕ) → 0 < c → a ≤ k * c → Within (round binary64 false k 1) (round binary64 false a c)
unfolding round
round-within k a c C h = (
  round_mono binary64 0 1 a c (omega arith) C (rw (zero-mul c) (omega arith)),
  round_mono binary64 a c k 1 C (omega arith) (rw (mul-one a) h),
)

-- the sum of two numbers from 0 to 1 is from 0 to 2
below_one : (m : ℕ) (e : ℤ) → T (le (fin false m e) one64) → m * up e ≤ down e
below_one m e p = omega (arith, cross m e 1 (pos 0) p)

sum-plain : (a b : Float) → Plain a → Plain b → T (le a one64) → T (le b one64) → Within two64 (add binary64 a b)
unfolding add sum round
sum-plain _ _ (plain m e) (plain n d) p q =
    let i : m * up e * down d ≤ down e * down d = mul-le-mul_right (down d) (below_one m e p) in
    let j : n * up d * down e ≤ down d * down e = mul-le-mul_right (down e) (below_one n d q) in
    round-within 2 _ (down e * down d) (mul-pos (down_pos e) (down_pos d)) (omega (arith, mul_comm (down d) (down e)))

-- half of a number from 0 to 2 is from 0 to 1
half-plain : (a : Float) → Plain a → T (le a two64) → Within one64 (div binary64 a two64)
unfolding div round
half-plain _ (plain m e) p =
    let one : 0 < 1 = omega arith in
    let C : 0 < 1 * up (pos 1) * down e = mul-pos (mul-pos one (up_pos (pos 1))) (down_pos e) in
    round-within 1 (m * up e * 1) _ C (omega (arith, cross m e 1 (pos 1) p))

-- with either sign of a zero
half-between : (z : Float) → Within two64 z → Within one64 (div binary64 z two64)
half-between z h =
    let same : Alike (plus0 z) z = plus0-plus0 z in
    let q = within-alike two64 z (plus0 z) (sym same) h in
    let b = half-plain (plus0 z) (plus0-plain z (between-nonneg z 1 (pos 1) h.0 h.1)) q.1 in
    within-alike one64 _ _ (div-alike binary64 (plus0 z) z false 0 (pos 1) same) b

-- half of the sum of two numbers from 0 to 1, a zero as +0, is from 0 to 1
pub half-ok : (x y : Float) → T (nonneg x) → T (nonneg y) → Within one64 x → Within one64 y → colour_ok (plus_zero (half_of x y)) ≡ true
unfolding colour_ok half_of
half-ok x y g h p q =
    let i : Alike (plus0 x) x = plus0-plus0 x in
    let j : Alike (plus0 y) y = plus0-plus0 y in
    let p' = within-alike one64 x (plus0 x) (sym i) p in
    let q' = within-alike one64 y (plus0 y) (sym j) q in
    let s = sum-plain (plus0 x) (plus0 y) (plus0-plain x g) (plus0-plain y h) p'.1 q'.1 in
    let z = add binary64 x y in
    let b = half-between z (within-alike two64 _ z (add-alike binary64 (plus0 x) x (plus0 y) y i j) s) in
    let r = div binary64 z two64 in
    let c : Alike r (plus_zero r) = sym (ap plus0 (plus-zero-is r (div-fits binary64 z two64)) ∙ plus0-plus0 r) in
    let d = within-alike one64 r (plus_zero r) c b in
    is_true _ (and_i (le zero64 (plus_zero r)) (le (plus_zero r) one64) d.0 d.1)
