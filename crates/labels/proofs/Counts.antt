-- Laws of counting below n.
-- Assumes nothing.
use mathlib.Core.Path.{◌≡◌, refl, ◌∙◌}
use mathlib.Core.Bool.{Bool, true, false, cond}
use mathlib.Core.Logic.{⊎_elim}
use Prim.Native.Nat.{ℕ, zero, suc, ◌+◌, ◌≤◌, ◌<◌}
use native.Mathlib.Nat.{not-suc-le-zero}
use native.Mathlib.Omega.{arith}
use Rattle.plane.specs.Search.{count_below}
use Rattle.plane.proofs.Search.{count_same}
use Rattle.std.proofs.lemmas.Bool.{cases_Bool, cases_lt}

module _ (p : ℕ → Bool) where
  -- one number more
  pub count-more : (n : ℕ) → p n ≡ true → count_below (suc n) p ≡ count_below n p + 1
  unfolding count_below
  count-more n e = rw e

  pub count-no-more : (n : ℕ) → p n ≡ false → count_below (suc n) p ≡ count_below n p
  unfolding count_below
  count-no-more n e = rw e (omega arith)

  -- a count never falls as n rises
  pub count-mono : (a b : ℕ) → a ≤ b → count_below a p ≤ count_below b p
  unfolding count_below
  count-mono a zero l = let q : a ≡ 0 = omega arith in rw q (omega arith)
  count-mono a (suc b) l =
      ⊎_elim {C = count_below a p ≤ count_below b p + cond (p b) 1 0}
      (λ (m : b < a). (let q : a ≡ suc b = omega arith in rw q (omega arith)))
      (λ (m : a ≤ b). omega (arith, count-mono a b m))
      (cases_lt b a)

  -- nor rises faster than n
  pub count-slow : (a b : ℕ) → a ≤ b → count_below b p + a ≤ count_below a p + b
  unfolding count_below
  count-slow a zero l = let q : a ≡ 0 = omega arith in rw q (omega arith)
  count-slow a (suc b) l =
      ⊎_elim {C = count_below b p + cond (p b) 1 0 + a ≤ count_below a p + suc b}
      (λ (m : b < a). (let q : a ≡ suc b = omega arith in rw q (omega arith)))
      (λ (m : a ≤ b). (
      let z = count-slow a b m in
      ⊎_elim {C = count_below b p + cond (p b) 1 0 + a ≤ count_below a p + suc b}
      (λ e. rw e (omega arith))
      (λ e. rw e (omega arith))
      (cases_Bool (p b))))
      (cases_lt b a)

  -- and stays where p holds of none in between
  pub count-gap : (a b : ℕ) → a ≤ b → ((k : ℕ) → a ≤ k → k < b → p k ≡ false) → count_below b p ≡ count_below a p
  count-gap a zero l h = let q : a ≡ 0 = omega arith in rw q refl
  count-gap a (suc b) l h =
      ⊎_elim {C = count_below (suc b) p ≡ count_below a p}
      (λ (m : b < a). (let q : a ≡ suc b = omega arith in rw q refl))
      (λ (m : a ≤ b). count-no-more b (h b m (omega arith)) ∙ count-gap a b m (λ k i j. h k i (omega arith)))
      (cases_lt b a)

  -- and rises past a number of which p holds
  pub count-strict : (a b : ℕ) → a < b → p a ≡ true → count_below a p < count_below b p
  count-strict a b l e = omega (arith, count-more a e, count-mono (suc a) b l)

  -- every number below the count is the count before some number of which p holds
  pub count-reached : (n k : ℕ) → k < count_below n p → (i : ℕ) × (i < n) × (p i ≡ true) × (count_below i p ≡ k)
  unfolding count_below
  count-reached zero k l = absurd (not-suc-le-zero l)
  count-reached (suc n) k l =
      ⊎_elim {C = (i : ℕ) × (i < suc n) × (p i ≡ true) × (count_below i p ≡ k)}
      (λ (m : k < count_below n p). (let z = count-reached n k m in (z.0, omega (arith, z.1), z.2, z.3)))
      (λ (m : count_below n p ≤ k).
      ⊎_elim {C = (i : ℕ) × (i < suc n) × (p i ≡ true) × (count_below i p ≡ k)}
      (λ (e : p n ≡ true). (let l' : k < count_below n p + 1 = rw e at l in (n, omega arith, e, omega arith)))
      (λ (e : p n ≡ false). (let l' : k < count_below n p + 0 = rw e at l in absurd (omega arith)))
      (cases_Bool (p n)))
      (cases_lt k (count_below n p))

-- where one number below n is taken away, the count is one less
pub count-without : (p q : ℕ → Bool) (n i : ℕ) → i < n → p i ≡ true → q i ≡ false → ((k : ℕ) → (k ≡ i → ⊥) → q k ≡ p k)
    → count_below n q + 1 ≡ count_below n p
unfolding count_below
count-without p q zero i l e g same = absurd (not-suc-le-zero l)
count-without p q (suc n) i l e g same =
    ⊎_elim {C = count_below n q + cond (q n) 1 0 + 1 ≡ count_below n p + cond (p n) 1 0}
    (λ (m : i < n). rw (same n (λ z. omega arith)) (omega (arith, count-without p q n i m e g same)))
    (λ (m : n ≤ i). (
    let z : i ≡ n = omega arith in
    let e' : p n ≡ true = rw z at e in
    let g' : q n ≡ false = rw z at g in
    rw (e', g') (omega (arith, count_same q p n (λ k j. same k (λ u. omega arith))))))
    (cases_lt i n)
