-- The order of floats: `le` is transitive, and total off NaN. So the larger of two numbers is at most a bound exactly when both are.
-- Assumes nothing.
use mathlib.Core.Path.{◌≡◌, refl, sym, ap, ◌∙◌, subst}
use mathlib.Core.Bool.{Bool, true, false, not, ◌&&◌, ◌||◌, cond, and-true}
use mathlib.Core.Logic.{⊎_elim}
use Prim.Native.Nat.{ℕ, zero, suc, ◌+◌, ◌*◌, ◌≤◌, ◌<◌}
use native.Mathlib.Nat.{zero-mul, le_of_mul-le-mul_right, le_of_eq, le_of_lt, eq-or-lt_of_le}
use native.Mathlib.Omega.{arith}
use lib.Dec.{T, ltb, leb, eqb, leb→le, le→leb, eqb→eq}
use borrow.Author.Tests.{lt-ltb, le-leb, lt-leb, eq-eqb, ne_eqb, ltb-true, ltb-false}
use lib.Ieee.{Float, nan, inf, fin, up, down, below, level, lt, eq, le, is_nan}
use lib.Ieee.Fits.{down_pos, and_l, and_r}
use lib.Ieee.Positive.{through}
use Rattle.colour.specs.Number.{larger}

-- less, or what tests whether they are equal, is at most
at-most : (u v : ℕ) (e : Bool) → (u ≡ v → e ≡ true) → ((u ≡ v → ⊥) → e ≡ false) → ltb u v || e ≡ leb u v
at-most u v e p q = go (ltb u v) refl
  where
    go : (t : Bool) → ltb u v ≡ t → t || e ≡ leb u v
    go true h = sym (le-leb u v (le_of_lt (ltb-true u v h)))
    go false h =
        ⊎_elim (λ z. p (sym z) ∙ sym (le-leb u v (le_of_eq (sym z))))
        (λ l. q (λ k. omega arith) ∙ sym (lt-leb u v l)) (eq-or-lt_of_le (ltb-false u v h))

pub lt-or-eq : (u v : ℕ) → ltb u v || eqb u v ≡ leb u v
lt-or-eq u v = at-most u v (eqb u v) (eq-eqb u v) (ne_eqb u v)

-- ---- ±x at most ±y
abbrev upto : Bool → ℕ → Bool → ℕ → Bool
upto s x t y = below s x t y || level s x t y

both-plus : (x y : ℕ) → upto false x false y ≡ leb x y
both-plus x y = rw (and-true (eqb x y)) (lt-or-eq x y)

both-minus : (x y : ℕ) → upto true x true y ≡ leb y x
both-minus x y = rw (and-true (eqb x y)) (at-most y x (eqb x y) (λ e. eq-eqb x y (sym e)) (λ n. ne_eqb x y (λ e. n (sym e))))

minus_plus : (x y : ℕ) → T (upto true x false y)
minus_plus zero zero = tt
minus_plus zero (suc y) = rw (lt-ltb 0 (zero + suc y) (omega arith)) tt
minus_plus (suc x) y = rw (lt-ltb 0 (suc x + y) (omega arith)) tt

plus-minus : (x y : ℕ) → T (upto false x true y) → (x ≡ 0) × (y ≡ 0)
plus-minus x y t =
    let e = eqb→eq x y (and_l (eqb x y) (eqb x 0) t) in
    let z = eqb→eq x 0 (and_r (eqb x y) (eqb x 0) t) in
    (z, sym e ∙ z)

zeros : T (upto false 0 true 0)
zeros = tt

-- a product is 0 where the other factor is not
gone : (a q : ℕ) → 0 < q → a * q ≡ 0 → a ≡ 0
gone a q Q e = let h : a ≤ 0 = le_of_mul-le-mul_right (le_of_eq (e ∙ sym (zero-mul q))) Q in omega arith

none : (a q : ℕ) → a ≡ 0 → a * q ≡ 0
none a q e = ap (λ (k : ℕ). k * q) e ∙ zero-mul q

-- the fractions a / p, b / q, c / r, with signs
module _ (a b c p q r : ℕ) (P : 0 < p) (Q : 0 < q) (R : 0 < r) where
  upto-trans : (s t u : Bool) → T (upto s (a * q) t (b * p)) → T (upto t (b * r) u (c * q)) → T (upto s (a * r) u (c * p))
  upto-trans true t false h k = minus_plus (a * r) (c * p)
  upto-trans false false false h k =
      let i = leb→le _ _ (subst T (both-plus (a * q) (b * p)) h) in
      let j = leb→le _ _ (subst T (both-plus (b * r) (c * q)) k) in
      subst T (sym (both-plus (a * r) (c * p))) (le→leb _ _ (through a b c p q r Q i j))
  upto-trans true true true h k =
      let i = leb→le _ _ (subst T (both-minus (b * r) (c * q)) k) in
      let j = leb→le _ _ (subst T (both-minus (a * q) (b * p)) h) in
      subst T (sym (both-minus (a * r) (c * p))) (le→leb _ _ (through c b a r q p Q i j))
  upto-trans false false true h k =
      let z = plus-minus (b * r) (c * q) k in
      let b0 = none b p (gone b r R z.0) in
      let c0 = none c p (gone c q Q z.1) in
      let a1 : a * q ≤ b * p = leb→le _ _ (subst T (both-plus (a * q) (b * p)) h) in
      let a2 : a * q ≡ 0 = omega arith in
      let a0 = none a r (gone a q Q a2) in
      rw (a0, c0) tt
  upto-trans false true false h k =
      let z = plus-minus (a * q) (b * p) h in
      rw (none a r (gone a q Q z.0)) (subst T (sym (both-plus 0 (c * p))) (le→leb 0 (c * p) (omega arith)))
  upto-trans false true true h k =
      let z = plus-minus (a * q) (b * p) h in
      let b0 = none b r (gone b p P z.1) in
      let c1 : c * q ≤ b * r = leb→le _ _ (subst T (both-minus (b * r) (c * q)) k) in
      let c2 : c * q ≡ 0 = omega arith in
      rw (none a r (gone a q Q z.0), none c p (gone c q Q c2)) tt
  upto-trans true false true h k =
      let z = plus-minus (b * r) (c * q) k in
      rw (none c p (gone c q Q z.1)) (subst T (sym (both-minus (a * r) 0)) (le→leb 0 (a * r) (omega arith)))

-- ---- floats
least : (z : Float) → T (not (is_nan z)) → T (le (inf true) z)
unfolding le lt eq is_nan
least nan t = absurd t
least (inf true) t = tt
least (inf false) t = tt
least (fin s m e) t = tt

not-nan : (y z : Float) → T (le y z) → T (not (is_nan z))
unfolding le lt eq is_nan
not-nan nan nan t = t
not-nan (inf s) nan t = t
not-nan (fin s m e) nan t = t
not-nan y (inf s) t = tt
not-nan y (fin s m e) t = tt

pub le-trans-float : (x y z : Float) → T (le x y) → T (le y z) → T (le x z)
unfolding le lt eq
le-trans-float nan y z h k = absurd h
le-trans-float (inf s) nan z h k = absurd h
le-trans-float (inf true) (inf t) z h k = least z (not-nan (inf t) z k)
le-trans-float (inf false) (inf true) z h k = absurd h
le-trans-float (inf false) (inf false) z h k = k
le-trans-float (inf true) (fin t n d) z h k = least z (not-nan (fin t n d) z k)
le-trans-float (inf false) (fin t n d) z h k = absurd h
le-trans-float (fin s m e) nan z h k = absurd h
le-trans-float (fin s m e) (inf true) z h k = absurd h
le-trans-float (fin s m e) (inf false) nan h k = absurd k
le-trans-float (fin s m e) (inf false) (inf true) h k = absurd k
le-trans-float (fin s m e) (inf false) (inf false) h k = tt
le-trans-float (fin s m e) (inf false) (fin u l g) h k = absurd k
le-trans-float (fin s m e) (fin t n d) nan h k = absurd k
le-trans-float (fin s m e) (fin t n d) (inf u) h k = k
le-trans-float (fin s m e) (fin t n d) (fin u l g) h k =
    upto-trans (m * up e) (n * up d) (l * up g) (down e) (down d) (down g) (down_pos e) (down_pos d) (down_pos g) s t u h k

-- two numbers that are no NaN: the first is less, or the second is at most the first
upto-total : (x y : ℕ) (s t : Bool) → below s x t y ≡ false → T (upto t y s x)
upto-total x y false false e = subst T (sym (both-plus y x)) (le→leb y x (ltb-false x y e))
upto-total x y false true e = minus_plus y x
upto-total x y true false e =
    let h : x + y ≤ 0 = ltb-false 0 (x + y) e in
    let x0 : x ≡ 0 = omega arith in
    let y0 : y ≡ 0 = omega arith in
    rw (x0, y0) tt
upto-total x y true true e = subst T (sym (both-minus y x)) (le→leb x y (ltb-false y x e))

pub le_of_not_lt : (x y : Float) → T (not (is_nan x)) → T (not (is_nan y)) → lt x y ≡ false → T (le y x)
unfolding le lt eq is_nan
le_of_not_lt nan y a b e = absurd a
le_of_not_lt (inf s) nan a b e = absurd b
le_of_not_lt (inf true) (inf true) a b e = tt
le_of_not_lt (inf true) (inf false) a b e = subst T e tt
le_of_not_lt (inf false) (inf true) a b e = tt
le_of_not_lt (inf false) (inf false) a b e = tt
le_of_not_lt (inf true) (fin t n d) a b e = absurd (subst T e tt)
le_of_not_lt (inf false) (fin t n d) a b e = tt
le_of_not_lt (fin s m e) nan a b p = absurd b
le_of_not_lt (fin s m e) (inf true) a b p = tt
le_of_not_lt (fin s m e) (inf false) a b p = absurd (subst T p tt)
le_of_not_lt (fin s m e) (fin t n d) a b p = upto-total (m * up e * down d) (n * up d * down e) s t p

or_left : (a b : Bool) → a ≡ true → T (a || b)
or_left true b e = tt
or_left false b e = absurd (subst T (sym e) tt)

pub le-of-lt-float : (x y : Float) → lt x y ≡ true → T (le x y)
unfolding le
le-of-lt-float x y e = or_left (lt x y) (eq x y) e

-- ---- the larger of two numbers
follows-left : (a b : Bool) → (T b → T a) → b ≡ a && b
follows-left true b h = refl
follows-left false true h = absurd (h tt)
follows-left false false h = refl

follows-right : (a b : Bool) → (T a → T b) → a ≡ a && b
follows-right true true h = refl
follows-right true false h = absurd (h tt)
follows-right false b h = refl

module _ (x y : Float) (a : T (not (is_nan x))) (b : T (not (is_nan y))) where
  -- the larger is at most t exactly when both are
  pub larger-le : (t : Float) → le (larger x y) t ≡ le x t && le y t
  unfolding larger
  larger-le t = go (lt x y) refl
    where
      go : (i : Bool) → lt x y ≡ i → le (cond i y x) t ≡ le x t && le y t
      go true e = follows-left (le x t) (le y t) (le-trans-float x y t (le-of-lt-float x y e))
      go false e = follows-right (le x t) (le y t) (le-trans-float y x t (le_of_not_lt x y a b e))

  pub larger-number : T (not (is_nan (larger x y)))
  unfolding larger
  larger-number = go (lt x y)
    where
      go : (i : Bool) → T (not (is_nan (cond i y x)))
      go true = b
      go false = a
