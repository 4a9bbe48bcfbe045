-- Laws of searching and counting below n.
-- Assumes nothing.
use mathlib.Core.Path.{◌≡◌, refl, sym, ap, ◌∙◌}
use mathlib.Core.Bool.{Bool, true, false, cond, ◌&&◌, ◌||◌}
use mathlib.Core.Logic.{⊎_elim}
use Prim.Native.Nat.{ℕ, zero, suc, ◌+◌, ◌≤◌, ◌<◌}
use native.Mathlib.Nat.{not-suc-le-zero}
use native.Mathlib.Numerals.{add-one}
use native.Mathlib.Omega.{arith}
use lib.ListN.{length, get_or, take}
use mathlib.Core.List.{List}
use Rattle.std.specs.List.{fold}
use Rattle.std.proofs.lemmas.List.{take_more, take_all}
use Rattle.std.proofs.lemmas.List.Sums.{fold_push}
use Rattle.plane.specs.Search.{some_below, count_below}
use Rattle.std.proofs.lemmas.Bool.{cases_Bool, cases_lt, or_cases, or_parts}

-- no test is both
pub not-both : {R : Type 0} (t : Bool) → t ≡ true → t ≡ false → R
not-both t p q = let z : ◌≡◌ {A = Bool} true false = cc in let e : ◌≡◌ {A = ℕ} 1 0 = ap (λ (b : Bool). cond b 1 0) z in absurd (omega arith)

-- what holds of every number below n, and of n, holds of every number below suc n
pub below_suc : (P : ℕ → Type 0) (n : ℕ) → ((k : ℕ) → k < n → P k) → P n → (k : ℕ) → k < suc n → P k
below_suc P n h p k l =
    ⊎_elim {C = P k} (λ (a : k < n). h k a) (λ (a : n ≤ k). (let e : n ≡ k = omega arith in rw e at p)) (cases_lt k n)

-- ---- tests joined by "or" and "and"

pub or_no : (t : Bool) → t || false ≡ t
or_no true = refl
or_no false = refl

pub and_no : (t : Bool) → t && false ≡ false
and_no true = refl
and_no false = refl

-- two conjunctions are equal where the first parts are, and the second parts are wherever the first hold
pub and_same : (s t a b : Bool) → s ≡ t → (s ≡ true → a ≡ b) → s && a ≡ t && b
and_same s t a b e h = rw (sym e) (go s h)
  where
    go : (r : Bool) → (r ≡ true → a ≡ b) → r && a ≡ r && b
    go true g = g refl
    go false g = refl

-- ---- searches

module _ (p : ℕ → Bool) where
  -- a search that finds has a place
  pub some-found : (n : ℕ) → some_below n p ≡ true → (i : ℕ) × (i < n) × (p i ≡ true)
  unfolding some_below
  some-found zero e = not-both false e refl
  some-found (suc n) e =
      ⊎_elim {C = (i : ℕ) × (i < suc n) × (p i ≡ true)}
      (λ (a : some_below n p ≡ true). (let z = some-found n a in (z.0, omega (arith, z.1), z.2)))
      (λ (a : p n ≡ true). (n, omega arith, a))
      (or_cases (some_below n p) (p n) e)

  -- a search that finds nothing has no place
  pub none_found : (n : ℕ) → some_below n p ≡ false → (i : ℕ) → i < n → p i ≡ false
  unfolding some_below
  none_found zero e i l = absurd (not-suc-le-zero l)
  none_found (suc n) e i l =
      let z = or_parts (some_below n p) (p n) e in
      below_suc (λ (k : ℕ). p k ≡ false) n (none_found n z.0) z.1 i l

  -- a place is found
  pub some_is : (n i : ℕ) → i < n → p i ≡ true → some_below n p ≡ true
  some_is n i l e =
      ⊎_elim {C = some_below n p ≡ true}
      (λ (a : some_below n p ≡ true). a)
      (λ (a : some_below n p ≡ false). not-both (p i) e (none_found n a i l))
      (cases_Bool (some_below n p))

  -- and where there is none, nothing is
  pub none_is : (n : ℕ) → ((i : ℕ) → i < n → p i ≡ false) → some_below n p ≡ false
  none_is n h =
      ⊎_elim {C = some_below n p ≡ false}
      (λ (a : some_below n p ≡ true). (let z = some-found n a in not-both (p z.0) z.2 (h z.0 z.1)))
      (λ (a : some_below n p ≡ false). a)
      (cases_Bool (some_below n p))

  -- a count is at most n
  pub count_most : (n : ℕ) → count_below n p ≤ n
  unfolding count_below
  count_most zero = omega arith
  count_most (suc n) =
      let z = count_most n in
      ⊎_elim {C = count_below n p + cond (p n) 1 0 ≤ suc n}
      (λ (a : p n ≡ true). rw a (omega arith))
      (λ (a : p n ≡ false). rw a (omega arith))
      (cases_Bool (p n))

-- equal tests find alike, and count alike
pub some_same : (p q : ℕ → Bool) (n : ℕ) → ((i : ℕ) → i < n → p i ≡ q i) → some_below n p ≡ some_below n q
unfolding some_below
some_same p q zero h = refl
some_same p q (suc n) h = rw (some_same p q n (λ i l. h i (omega arith)), h n (omega arith))

pub count_same : (p q : ℕ → Bool) (n : ℕ) → ((i : ℕ) → i < n → p i ≡ q i) → count_below n p ≡ count_below n q
unfolding count_below
count_same p q zero h = refl
count_same p q (suc n) h = rw (count_same p q n (λ i l. h i (omega arith)), h n (omega arith))

-- one number more is searched
pub some_more : (p : ℕ → Bool) (i : ℕ) (found t : Bool) → found ≡ some_below i p → t ≡ p i → (found || t) ≡ some_below (i + 1) p
unfolding some_below
some_more p i found t e d = rw (add-one i, e, d)

-- a fold along a list searches it
module _ (p : ℕ → Bool) (xs : List ℕ) where
  some_fold-upto : (i : ℕ) → i ≤ length xs
      → fold (λ (found : Bool) (x : ℕ). found || p x) false (take i xs) ≡ some_below i (λ (k : ℕ). p (get_or xs k 0))
  unfolding some_below
  some_fold-upto zero l = refl
  some_fold-upto (suc i) l =
      let h : i < length xs = omega arith in
      let e = take_more xs i 0 h in
      let ih = some_fold-upto i (omega arith) in
      let f : Bool → ℕ → Bool = λ found x. found || p x in
      ap (fold f false) (rw add-one at e)
      ∙ fold_push f false (take i xs) (get_or xs i 0)
      ∙ ap (λ (b : Bool). b || p (get_or xs i 0)) ih

  pub some_fold : fold (λ (found : Bool) (x : ℕ). found || p x) false xs ≡ some_below (length xs) (λ (k : ℕ). p (get_or xs k 0))
  some_fold = sym (ap (fold (λ (found : Bool) (x : ℕ). found || p x) false) (take_all (length xs) xs (omega arith))) ∙ some_fold-upto (length xs) (omega arith)
