-- The sign of a zero. `plus0 x` is x with a zero's sign cleared. Comparisons do not see the difference, and each operation here
-- gives the same number. `Alike x y`: x and y are the same number, up to the sign of a zero.
-- Assumes nothing.
use mathlib.Core.Path.{◌≡◌, refl, sym, ap, ◌∙◌, subst}
use mathlib.Core.Bool.{Bool, true, false, ◌&&◌, ◌||◌, beq, cond}
use Prim.Native.Nat.{ℕ, zero, suc, ◌*◌, ◌^◌, ◌<◌}
use native.Mathlib.Nat.{zero-mul, mul-zero, zero-add, add-zero, sub-zero, mul-pos, mul_comm, mul_assoc}
use native.Mathlib.Nat.{mul_left_comm}
use native.Mathlib.Omega.{arith}
use lib.IntN.{ℤ, pos}
use lib.Dec.{T, ltb, eqb, eqb→eq}
use borrow.Author.Tests.{lt-ltb, le-ltb, ne_eqb}
use lib.Ieee.{Float, nan, inf, fin, Format, binary64, up, down, lt, eq, le, neg, add, sub, mul, div, sum, round, fits, below, level}
use lib.Ieee.{to_bits, of_bits, low, unlike}
use lib.Ieee.Bits.{of_bits-to_bits}
use lib.Ieee.Fits.{up_pos, down_pos, and_l, and_r}
use lib.Ieee.Nearest.{div_same}
use lib.Ieee.Scale.{round_same}
use Rattle.colour.specs.Number.{zero64, plus_zero}

-- x with a zero's sign cleared
unfoldable pub plus0 : Float → Float
plus0 nan = nan
plus0 (inf s) = inf s
plus0 (fin s zero e) = fin false zero e
plus0 (fin s (suc m) e) = fin s (suc m) e

-- what holds of each number and itself, and of a zero with either sign and +0, holds of each number and it with a zero's sign cleared
pub plus0-cases : (P : Float → Float → Type 0) → ((x : Float) → P x x) → ((s : Bool) (e : ℤ) → P (fin s zero e) (fin false zero e))
    → (x : Float) → P x (plus0 x)
unfolding plus0
plus0-cases P r z nan = r nan
plus0-cases P r z (inf s) = r (inf s)
plus0-cases P r z (fin s zero e) = z s e
plus0-cases P r z (fin s (suc m) e) = r (fin s (suc m) e)

-- ---- comparisons
below-zero : (s t : Bool) (b : ℕ) → below s 0 t b ≡ below false 0 t b
below-zero false t b = refl
below-zero true false b = ap (ltb 0) (zero-add b)
below-zero true true b = le-ltb b 0 (omega arith)

below-zero-right : (s t : Bool) (a : ℕ) → below s a t 0 ≡ below s a false 0
below-zero-right s false a = refl
below-zero-right false true a = sym (le-ltb a 0 (omega arith))
below-zero-right true true a = ap (ltb 0) (sym (add-zero a))

lt-zero : (s : Bool) (e : ℤ) (y : Float) → lt (fin s zero e) y ≡ lt (fin false zero e) y
unfolding lt
lt-zero s e nan = refl
lt-zero s e (inf t) = refl
lt-zero s e (fin t n d) = rw (zero-mul, zero-mul) (below-zero s t (n * up d * down e))

pub lt-left : (x y : Float) → lt x y ≡ lt (plus0 x) y
lt-left x y = plus0-cases (λ a b. lt a y ≡ lt b y) (λ a. refl) (λ s e. lt-zero s e y) x

lt-zero-right : (x : Float) (t : Bool) (d : ℤ) → lt x (fin t zero d) ≡ lt x (fin false zero d)
unfolding lt
lt-zero-right nan t d = refl
lt-zero-right (inf s) t d = refl
lt-zero-right (fin s m e) t d = rw (zero-mul, zero-mul) (below-zero-right s t (m * up e * down d))

pub lt-right : (x y : Float) → lt x y ≡ lt x (plus0 y)
lt-right x y = plus0-cases (λ a b. lt x a ≡ lt x b) (λ a. refl) (lt-zero-right x) y

level-zero : (s t : Bool) (b : ℕ) → level s 0 t b ≡ level false 0 t b
level-zero false t b = refl
level-zero true false b = refl
level-zero true true b = refl

or-true : (b : Bool) → b || true ≡ true
or-true true = refl
or-true false = refl

and_zero : (a : ℕ) (p q : Bool) → eqb a 0 && (p || eqb a 0) ≡ eqb a 0 && (q || eqb a 0)
and_zero a p q = go (eqb a 0)
  where
    go : (b : Bool) → b && (p || b) ≡ b && (q || b)
    go true = or-true p ∙ sym (or-true q)
    go false = refl

eq-zero : (s : Bool) (e : ℤ) (y : Float) → eq (fin s zero e) y ≡ eq (fin false zero e) y
unfolding eq
eq-zero s e nan = refl
eq-zero s e (inf t) = refl
eq-zero s e (fin t n d) = rw (zero-mul, zero-mul) (level-zero s t (n * up d * down e))

pub eq-left : (x y : Float) → eq x y ≡ eq (plus0 x) y
eq-left x y = plus0-cases (λ a b. eq a y ≡ eq b y) (λ a. refl) (λ s e. eq-zero s e y) x

eq-zero-right : (x : Float) (t : Bool) (d : ℤ) → eq x (fin t zero d) ≡ eq x (fin false zero d)
unfolding eq
eq-zero-right nan t d = refl
eq-zero-right (inf s) t d = refl
eq-zero-right (fin s m e) t d = rw (zero-mul, zero-mul) (and_zero (m * up e * down d) (beq s t) (beq s false))

pub eq-right : (x y : Float) → eq x y ≡ eq x (plus0 y)
eq-right x y = plus0-cases (λ a b. eq x a ≡ eq x b) (λ a. refl) (eq-zero-right x) y

pub le_left : (x y : Float) → le x y ≡ le (plus0 x) y
unfolding le
le_left x y = rw (lt-left x y, eq-left x y)

pub le_right : (x y : Float) → le x y ≡ le x (plus0 y)
unfolding le
le_right x y = rw (lt-right x y, eq-right x y)

-- ---- operations
-- the same number, up to the sign of a zero
abbrev pub Alike : Float → Float → Type 0
Alike x y = plus0 x ≡ plus0 y

pub plus0-plus0 : (x : Float) → plus0 (plus0 x) ≡ plus0 x
unfolding plus0
plus0-plus0 = plus0-cases (λ a b. plus0 b ≡ plus0 a) (λ a. refl) (λ s e. refl)

pub neg-alike : (x : Float) → Alike (neg x) (neg (plus0 x))
unfolding neg plus0
neg-alike = plus0-cases (λ a b. Alike (neg a) (neg b)) (λ a. refl) (λ s e. refl)

round-one : (f : Format) (s : Bool) → round f s 0 1 ≡ fin s 0 (pos 0)
unfolding round
round-one lib.Ieee.binary32 s = refl
round-one lib.Ieee.binary64 s = refl

round-zero : (f : Format) (s : Bool) (c : ℕ) → 0 < c → round f s 0 c ≡ fin s 0 (pos 0)
round-zero f s c h = round_same f s 0 c 0 1 h (omega arith) (simp zero-mul) ∙ round-one f s

round-zero-alike : (f : Format) (s t : Bool) (c : ℕ) → 0 < c → Alike (round f s 0 c) (round f t 0 c)
unfolding plus0
round-zero-alike f s t c h = rw (round-zero f s c h, round-zero f t c h) refl

sum-zero : (f : Format) (s t : Bool) (b c : ℕ) → 0 < c → Alike (sum f s 0 t b c) (round f t b c)
unfolding sum
sum-zero f true true b c h = rw zero-add refl
sum-zero f false false b c h = rw zero-add refl
sum-zero f true false zero c h = refl
sum-zero f true false (suc b) c h = rw (lt-ltb 0 (suc b) (omega arith), sub-zero) refl
sum-zero f false true zero c h = round-zero-alike f false true c h
sum-zero f false true (suc b) c h = rw (lt-ltb 0 (suc b) (omega arith), sub-zero) refl

sum-zero-right : (f : Format) (s t : Bool) (a c : ℕ) → 0 < c → Alike (sum f s a t 0 c) (round f s a c)
unfolding sum
sum-zero-right f true true a c h = rw add-zero refl
sum-zero-right f false false a c h = rw add-zero refl
sum-zero-right f true false zero c h = round-zero-alike f false true c h
sum-zero-right f true false (suc a) c h = rw (le-ltb (suc a) 0 (omega arith), lt-ltb 0 (suc a) (omega arith), sub-zero) refl
sum-zero-right f false true zero c h = refl
sum-zero-right f false true (suc a) c h = rw (le-ltb (suc a) 0 (omega arith), sub-zero) refl

add-zero-left : (f : Format) (s : Bool) (e : ℤ) (y : Float) → Alike (add f (fin s zero e) y) (add f (fin false zero e) y)
unfolding add
add-zero-left f s e nan = refl
add-zero-left f s e (inf t) = refl
add-zero-left f s e (fin t n d) =
    let h : 0 < down e * down d = mul-pos (down_pos e) (down_pos d) in
    simp zero-mul (sum-zero f s t (n * up d * down e) _ h ∙ sym (sum-zero f false t (n * up d * down e) _ h))

pub add_left : (f : Format) (x y : Float) → Alike (add f x y) (add f (plus0 x) y)
add_left f x y = plus0-cases (λ a b. Alike (add f a y) (add f b y)) (λ a. refl) (λ s e. add-zero-left f s e y) x

add-zero-right : (f : Format) (x : Float) (t : Bool) (d : ℤ) → Alike (add f x (fin t zero d)) (add f x (fin false zero d))
unfolding add
add-zero-right f nan t d = refl
add-zero-right f (inf s) t d = refl
add-zero-right f (fin s m e) t d =
    let h : 0 < down e * down d = mul-pos (down_pos e) (down_pos d) in
    simp zero-mul (sum-zero-right f s t (m * up e * down d) _ h ∙ sym (sum-zero-right f s false (m * up e * down d) _ h))

pub add_right : (f : Format) (x y : Float) → Alike (add f x y) (add f x (plus0 y))
add_right f x y = plus0-cases (λ a b. Alike (add f x a) (add f x b)) (λ a. refl) (add-zero-right f x) y

-- an operation that agrees with itself at `plus0` on each side agrees at numbers that are alike
agrees : {A : Type 0} (op : Float → Float → A) → ((x y : Float) → op x y ≡ op (plus0 x) y) → ((x y : Float) → op x y ≡ op x (plus0 y))
    → (x x' y y' : Float) → Alike x x' → Alike y y' → op x y ≡ op x' y'
agrees op l r x x' y y' p q =
    l x y ∙ ap (λ (z : Float). op z y) p ∙ sym (l x' y) ∙ r x' y ∙ ap (λ (z : Float). op x' z) q ∙ sym (r x' y')

pub add-alike : (f : Format) (x x' y y' : Float) → Alike x x' → Alike y y' → Alike (add f x y) (add f x' y')
add-alike f x x' y y' p q = agrees (λ a b. plus0 (add f a b)) (add_left f) (add_right f) x x' y y' p q

pub neg-of-alike : (x y : Float) → Alike x y → Alike (neg x) (neg y)
neg-of-alike x y p = neg-alike x ∙ ap (λ (z : Float). plus0 (neg z)) p ∙ sym (neg-alike y)

pub sub_alike : (f : Format) (x x' y y' : Float) → Alike x x' → Alike y y' → Alike (sub f x y) (sub f x' y')
unfolding sub
sub_alike f x x' y y' p q = add-alike f x x' (neg y) (neg y') p (neg-of-alike y y' q)

pub lt-alike : (x x' y y' : Float) → Alike x x' → Alike y y' → lt x y ≡ lt x' y'
lt-alike = agrees lt lt-left lt-right

pub le-alike : (x x' y y' : Float) → Alike x x' → Alike y y' → le x y ≡ le x' y'
le-alike = agrees le le_left le_right

-- ---- multiplication (2 * mixed, and half of the sum)
mul-zero-right : (f : Format) (x : Float) (t : Bool) (d : ℤ) → Alike (mul f x (fin t zero d)) (mul f x (fin false zero d))
unfolding mul
mul-zero-right f nan t d = refl
mul-zero-right f (inf s) t d = refl
mul-zero-right f (fin s m e) t d =
    let c = down e * down d in
    let z : m * up e * (zero * up d) ≡ 0 = simp (zero-mul, mul-zero) in
    ap (λ (q : ℕ). plus0 (round f (unlike s t) q c)) z
    ∙ round-zero-alike f (unlike s t) (unlike s false) c (mul-pos (down_pos e) (down_pos d))
    ∙ sym (ap (λ (q : ℕ). plus0 (round f (unlike s false) q c)) z)

pub mul_right : (f : Format) (x y : Float) → Alike (mul f x y) (mul f x (plus0 y))
mul_right f x y = plus0-cases (λ a b. Alike (mul f x a) (mul f x b)) (λ a. refl) (mul-zero-right f x) y

pub mul-alike : (f : Format) (x y y' : Float) → Alike y y' → Alike (mul f x y) (mul f x y')
mul-alike f x y y' q = mul_right f x y ∙ ap (λ (z : Float). plus0 (mul f x z)) q ∙ sym (mul_right f x y')

-- ---- division by a number that is not 0, as by 2
pub div-left : (f : Format) (x : Float) (t : Bool) (n : ℕ) (d : ℤ) → Alike (div f x (fin t (suc n) d)) (div f (plus0 x) (fin t (suc n) d))
unfolding div plus0
div-left f nan t n d = refl
div-left f (inf s) t n d = refl
div-left f (fin s (suc m) e) t n d = refl
div-left f (fin s zero e) t n d =
    let c = suc n * up d * down e in
    let z : zero * up e * down d ≡ 0 = simp zero-mul in
    rw (ne_eqb (suc n) 0 (λ q. omega arith))
    (ap (λ (q : ℕ). plus0 (round f (unlike s t) q c)) z
    ∙ round-zero-alike f (unlike s t) (unlike false t) c (mul-pos (mul-pos (omega arith) (up_pos d)) (down_pos e))
    ∙ sym (ap (λ (q : ℕ). plus0 (round f (unlike false t) q c)) z))

pub div-alike : (f : Format) (x y : Float) (t : Bool) (n : ℕ) (d : ℤ) → Alike x y
    → Alike (div f x (fin t (suc n) d)) (div f y (fin t (suc n) d))
div-alike f x y t n d p = div-left f x t n d ∙ ap (λ (z : Float). plus0 (div f z (fin t (suc n) d))) p ∙ sym (div-left f y t n d)

-- ---- equal as numbers: `eq` says so. Of two values that the format holds, they are then alike
-- m * 2 ^ e and n * 2 ^ d are one number
abbrev SameNumber : ℕ → ℤ → ℕ → ℤ → Type 0
SameNumber m e n d = m * up e * down d ≡ n * up d * down e

same-fraction : (m u d m' u' d' l : ℕ) → m * u * d' ≡ m' * u' * d → m * u * l * d' ≡ m' * u' * l * d
same-fraction m u d m' u' d' l p =
    simp (mul_assoc, mul_comm, mul_left_comm) (simp (mul_assoc, mul_comm, mul_left_comm) at (ap (λ (z : ℕ). z * l) p))

same_bits : (f : Format) (s : Bool) (m : ℕ) (e : ℤ) (n : ℕ) (d : ℤ) → SameNumber m e n d → to_bits f (fin s m e) ≡ to_bits f (fin s n d)
unfolding to_bits
same_bits f s m e n d p =
    rw (div_same (m * up e * 2 ^ low f) (down e) (n * up d * 2 ^ low f) (down d) (down_pos e) (down_pos d)
    (same-fraction m (up e) (down e) n (up d) (down d) (2 ^ low f) p))

pub same-value : (f : Format) (s : Bool) (m : ℕ) (e : ℤ) (n : ℕ) (d : ℤ) → T (fits f (fin s m e)) → T (fits f (fin s n d))
    → SameNumber m e n d → fin s m e ≡ fin s n d
same-value f s m e n d a b p = sym (of_bits-to_bits f (fin s m e) a) ∙ ap (of_bits f) (same_bits f s m e n d p) ∙ of_bits-to_bits f (fin s n d) b

zero-factor : (n : ℕ) (d e : ℤ) → 0 ≡ n * up d * down e → n ≡ 0
zero-factor zero d e p = refl
zero-factor (suc n) d e p =
    let h : 0 < suc n * up d * down e = mul-pos (mul-pos (omega arith) (up_pos d)) (down_pos e) in
    absurd (omega arith)

zero-alike : (f : Format) (s t : Bool) (e d : ℤ) → T (fits f (fin s zero e)) → T (fits f (fin t zero d))
    → Alike (fin s zero e) (fin t zero d)
unfolding plus0 fits
zero-alike f s t e d a b = same-value f false zero e zero d a b (simp zero-mul)

both_zero : (f : Format) (s t : Bool) (m : ℕ) (e : ℤ) (n : ℕ) (d : ℤ) → T (fits f (fin s m e)) → T (fits f (fin t n d))
    → SameNumber m e n d → m * up e * down d ≡ 0 → Alike (fin s m e) (fin t n d)
both_zero f s t m e n d a b p z =
    let hm : m ≡ zero = zero-factor m e d (sym z) in
    let hn : n ≡ zero = zero-factor n d e (sym z ∙ p) in
    ap (λ (k : ℕ). plus0 (fin s k e)) hm
    ∙ zero-alike f s t e d (subst (λ (k : ℕ). T (fits f (fin s k e))) hm a) (subst (λ (k : ℕ). T (fits f (fin t k d))) hn b)
    ∙ sym (ap (λ (k : ℕ). plus0 (fin t k d)) hn)

fin-alike : (f : Format) (s : Bool) (m : ℕ) (e : ℤ) (t : Bool) (n : ℕ) (d : ℤ) → T (fits f (fin s m e)) → T (fits f (fin t n d))
    → SameNumber m e n d → T (beq s t || eqb (m * up e * down d) 0) → Alike (fin s m e) (fin t n d)
fin-alike f true m e true n d a b p q = ap plus0 (same-value f true m e n d a b p)
fin-alike f false m e false n d a b p q = ap plus0 (same-value f false m e n d a b p)
fin-alike f true m e false n d a b p q = both_zero f true false m e n d a b p (eqb→eq (m * up e * down d) 0 q)
fin-alike f false m e true n d a b p q = both_zero f false true m e n d a b p (eqb→eq (m * up e * down d) 0 q)

pub eq-alike : (f : Format) (x y : Float) → T (fits f x) → T (fits f y) → T (eq x y) → Alike x y
unfolding eq
eq-alike f nan y a b t = absurd t
eq-alike f (inf s) nan a b t = absurd t
eq-alike f (inf true) (inf true) a b t = refl
eq-alike f (inf false) (inf false) a b t = refl
eq-alike f (inf true) (inf false) a b t = absurd t
eq-alike f (inf false) (inf true) a b t = absurd t
eq-alike f (inf s) (fin t n d) a b h = absurd h
eq-alike f (fin s m e) nan a b t = absurd t
eq-alike f (fin s m e) (inf t) a b h = absurd h
eq-alike f (fin s m e) (fin t n d) a b h =
    let i = m * up e * down d in
    let j = n * up d * down e in
    fin-alike f s m e t n d a b (eqb→eq i j (and_l (eqb i j) (beq s t || eqb i 0) h))
    (and_r (eqb (m * up e * down d) (n * up d * down e)) (beq s t || eqb (m * up e * down d) 0) h)

-- ---- a zero as +0
-- numbers that are alike have one plus_zero
zero-eq : (s : Bool) (e : ℤ) → eq (fin s zero e) zero64 ≡ true
unfolding eq
zero-eq true e = simp zero-mul
zero-eq false e = simp zero-mul

plus-zero-left : (x : Float) → plus_zero x ≡ plus_zero (plus0 x)
unfolding plus_zero
plus-zero-left = plus0-cases (λ a b. plus_zero a ≡ plus_zero b) (λ a. refl) (λ s e. rw (zero-eq s e, zero-eq false e) refl)

pub plus-zero-same : (x y : Float) → Alike x y → plus_zero x ≡ plus_zero y
plus-zero-same x y p = plus-zero-left x ∙ ap plus_zero p ∙ sym (plus-zero-left y)

no_zero : (x : Float) → eq x zero64 ≡ false → x ≡ plus0 x
unfolding plus0
no_zero nan e = refl
no_zero (inf s) e = refl
no_zero (fin s zero d) e = absurd (subst T (sym (zero-eq s d) ∙ e) tt)
no_zero (fin s (suc m) d) e = refl

-- of a value of the format, plus_zero is the number with a zero's sign cleared
pub plus-zero-is : (x : Float) → T (fits binary64 x) → plus_zero x ≡ plus0 x
unfolding plus_zero plus0 fits
plus-zero-is x t = go (eq x zero64) refl
  where
    go : (b : Bool) → eq x zero64 ≡ b → cond b zero64 x ≡ plus0 x
    go true e = sym (eq-alike binary64 x zero64 t tt (subst T (sym e) tt))
    go false e = no_zero x e
