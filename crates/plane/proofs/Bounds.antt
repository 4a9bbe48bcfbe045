-- Laws of the first and the last number below n of which p holds, and of the lesser of two numbers.
-- Assumes nothing.
use mathlib.Core.Path.{◌≡◌, refl, sym, ap, ◌∙◌}
use mathlib.Core.Bool.{Bool, true, false, cond, ◌||◌}
use mathlib.Core.Logic.{⊎_elim}
use Prim.Native.Nat.{ℕ, zero, suc, min, ◌+◌, ◌-◌, ◌≤◌, ◌<◌}
use native.Mathlib.Omega.{arith}
use lib.Dec.{leb}
use borrow.Author.Tests.{leb-true, leb-false}
use Rattle.plane.specs.Search.{some_below, first_below, last_below}
use Rattle.plane.specs.Box.{lesser_of}
use Rattle.plane.proofs.Search.{not-both, some_is, some_same, none_found, none_is}
use Rattle.std.proofs.lemmas.Bool.{cases_Bool, cases_lt, or_left, or_right}

-- i is the first of them, and the last
pub record First (n : ℕ) (p : ℕ → Bool) (i : ℕ) : Type 0 where
  pub inside : i < n
  pub holds : p i ≡ true
  pub before : (k : ℕ) → k < i → p k ≡ false

pub record Last (n : ℕ) (p : ℕ → Bool) (i : ℕ) : Type 0 where
  pub inside : i < n
  pub holds : p i ≡ true
  pub after : (k : ℕ) → i < k → k < n → p k ≡ false

module _ (p : ℕ → Bool) where
  pub first_below_lem : (n : ℕ) → some_below n p ≡ true → First n p (first_below n p)
  unfolding some_below first_below
  first_below_lem zero e = not-both false e refl
  first_below_lem (suc n) e =
      ⊎_elim {C = First (suc n) p (cond (some_below n p) (first_below n p) (cond (p n) n (suc n)))}
      (λ (a : some_below n p ≡ true). (
      let f = first_below_lem n a in
      rw a (record { inside = omega (arith, f.inside); holds = f.holds; before = f.before })))
      (λ (a : some_below n p ≡ false). (
      let b : p n ≡ true = rw a at e in
      rw (a, b) (record { inside = omega arith; holds = b; before = none_found p n a })))
      (cases_Bool (some_below n p))

  pub last-below : (n : ℕ) → some_below n p ≡ true → Last n p (last_below n p)
  unfolding some_below last_below
  last-below zero e = not-both false e refl
  last-below (suc n) e =
      ⊎_elim {C = Last (suc n) p (cond (p n) n (last_below n p))}
      (λ (a : p n ≡ true). rw a (record { inside = omega arith; holds = a; after = λ k l m. absurd (omega arith) }))
      (λ (a : p n ≡ false). (
      let f = last-below n (or_off (some_below n p) (p n) a e) in
      rw a (record {
        inside = omega (arith, f.inside);
        holds = f.holds;
        after = λ k l m.
            ⊎_elim {C = p k ≡ false}
            (λ (b : k < n). f.after k l b)
            (λ (b : n ≤ k). (let q : k ≡ n = omega arith in ap p q ∙ a))
            (cases_lt k n);
      })))
      (cases_Bool (p n))
    where
      or_off : (s t : Bool) → t ≡ false → s || t ≡ true → s ≡ true
      or_off true t a b = refl
      or_off false t a b = not-both t b a

  -- these laws determine them
  pub first_is : (n i : ℕ) → First n p i → first_below n p ≡ i
  first_is n i f =
      let g = first_below_lem n (some_is p n i f.inside f.holds) in
      ⊎_elim {C = first_below n p ≡ i}
      (λ (l : first_below n p < i). not-both (p (first_below n p)) g.holds (f.before (first_below n p) l))
      (λ (l : i ≤ first_below n p).
      ⊎_elim {C = first_below n p ≡ i}
      (λ (m : i < first_below n p). not-both (p i) f.holds (g.before i m))
      (λ (m : first_below n p ≤ i). omega arith)
      (cases_lt i (first_below n p)))
      (cases_lt (first_below n p) i)

  pub last-is : (n i : ℕ) → Last n p i → last_below n p ≡ i
  last-is n i f =
      let g = last-below n (some_is p n i f.inside f.holds) in
      ⊎_elim {C = last_below n p ≡ i}
      (λ (l : last_below n p < i). not-both (p i) f.holds (g.after i l f.inside))
      (λ (l : i ≤ last_below n p).
      ⊎_elim {C = last_below n p ≡ i}
      (λ (m : i < last_below n p). not-both (p (last_below n p)) g.holds (f.after (last_below n p) m g.inside))
      (λ (m : last_below n p ≤ i). omega arith)
      (cases_lt i (last_below n p)))
      (cases_lt (last_below n p) i)

  -- where p holds of none they are n and 0
  pub first-none : (n : ℕ) → ((k : ℕ) → k < n → p k ≡ false) → first_below n p ≡ n
  unfolding first_below
  first-none zero h = refl
  first-none (suc n) h = rw (none_is p n (λ k l. h k (omega arith)), h n (omega arith))

  pub last_none : (n : ℕ) → ((k : ℕ) → k < n → p k ≡ false) → last_below n p ≡ 0
  unfolding last_below
  last_none zero h = refl
  last_none (suc n) h = rw (h n (omega arith)) (last_none n (λ k l. h k (omega arith)))

  -- they are at most n
  pub first-most : (n : ℕ) → first_below n p ≤ n
  first-most n =
      ⊎_elim {C = first_below n p ≤ n}
      (λ (a : some_below n p ≡ true). omega (arith, (first_below_lem n a).inside))
      (λ (a : some_below n p ≡ false). omega (arith, first-none n (none_found p n a)))
      (cases_Bool (some_below n p))

  pub last-most : (n : ℕ) → last_below n p ≤ n
  last-most n =
      ⊎_elim {C = last_below n p ≤ n}
      (λ (a : some_below n p ≡ true). omega (arith, (last-below n a).inside))
      (λ (a : some_below n p ≡ false). omega (arith, last_none n (none_found p n a)))
      (cases_Bool (some_below n p))

  -- what holds lies between them
  pub between : (n i : ℕ) → i < n → p i ≡ true → (first_below n p ≤ i) × (i ≤ last_below n p)
  between n i l e =
      let s = some_is p n i l e in
      let f = first_below_lem n s in
      let g = last-below n s in (
        ⊎_elim {C = first_below n p ≤ i}
            (λ (m : i < first_below n p). not-both (p i) e (f.before i m))
            (λ (m : first_below n p ≤ i). m)
            (cases_lt i (first_below n p)),
        ⊎_elim {C = i ≤ last_below n p}
            (λ (m : last_below n p < i). not-both (p i) e (g.after i m l))
            (λ (m : i ≤ last_below n p). m)
            (cases_lt (last_below n p) i),
      )

  -- none lies before the first, and none behind the last
  pub none_before : (n k : ℕ) → k < first_below n p → p k ≡ false
  none_before n k l =
      ⊎_elim {C = p k ≡ false}
      (λ (a : some_below n p ≡ true). (first_below_lem n a).before k l)
      (λ (a : some_below n p ≡ false). none_found p n a k (omega (arith, first-most n)))
      (cases_Bool (some_below n p))

  pub none-behind : (n k : ℕ) → last_below n p < k → k < n → p k ≡ false
  none-behind n k l m =
      ⊎_elim {C = p k ≡ false}
      (λ (a : some_below n p ≡ true). (last-below n a).after k l m)
      (λ (a : some_below n p ≡ false). none_found p n a k m)
      (cases_Bool (some_below n p))

  -- p holds of no number from i on, and not of the one before: of none from that on
  pub none_from : (n i : ℕ) → 0 < i → ((k : ℕ) → i ≤ k → k < n → p k ≡ false) → p (i - 1) ≡ false
      → (k : ℕ) → i - 1 ≤ k → k < n → p k ≡ false
  none_from n i a h e k l m =
      ⊎_elim {C = p k ≡ false} (λ (g : k < i). (let q : k ≡ i - 1 = omega arith in ap p q ∙ e)) (λ (g : i ≤ k). h k g m) (cases_lt k i)

-- equal tests have the same first and last number
pub first_same : (p q : ℕ → Bool) (n : ℕ) → ((i : ℕ) → i < n → p i ≡ q i) → first_below n p ≡ first_below n q
unfolding first_below
first_same p q zero h = refl
first_same p q (suc n) h =
    rw (first_same p q n (λ i l. h i (omega arith)), some_same p q n (λ i l. h i (omega arith)), h n (omega arith))

pub last-same : (p q : ℕ → Bool) (n : ℕ) → ((i : ℕ) → i < n → p i ≡ q i) → last_below n p ≡ last_below n q
unfolding last_below
last-same p q zero h = refl
last-same p q (suc n) h = rw (last-same p q n (λ i l. h i (omega arith)), h n (omega arith))

-- ---- of two tests joined by "or"

or-neither : (s t : Bool) → s ≡ false → t ≡ false → s || t ≡ false
or-neither s t a b = rw (a, b)

module _ (p q : ℕ → Bool) (n : ℕ) where
  -- the first is that of q among the numbers before the first of p
  pub first-or : first_below n (λ (i : ℕ). p i || q i) ≡ first_below (first_below n p) q
  first-or =
      let f = first_below n p in
      let most = first-most p n in
      ⊎_elim {C = first_below n (λ (i : ℕ). p i || q i) ≡ first_below f q}
      (λ (a : some_below f q ≡ true).
      let g = first_below_lem q f a in
      first_is (λ (i : ℕ). p i || q i) n (first_below f q)
      (record {
        inside = omega (arith, g.inside);
        holds = or_right (p (first_below f q)) (q (first_below f q)) g.holds;
        before = λ k l. or-neither (p k) (q k) (none_before p n k (omega (arith, g.inside))) (g.before k l);
      }))
      (λ (a : some_below f q ≡ false). at_p (first_below f q) (first-none q f (none_found q f a)) (none_found q f a))
      (cases_Bool (some_below f q))
    where
      at_p : (b : ℕ) → b ≡ first_below n p → ((k : ℕ) → k < first_below n p → q k ≡ false)
          → first_below n (λ (i : ℕ). p i || q i) ≡ b
      at_p b e none =
          ⊎_elim {C = first_below n (λ (i : ℕ). p i || q i) ≡ b}
          (λ (s : some_below n p ≡ true).
          let g = first_below_lem p n s in
          first_is (λ (i : ℕ). p i || q i) n (first_below n p)
          (record {
            inside = g.inside;
            holds = or_left (p (first_below n p)) (q (first_below n p)) g.holds;
            before = λ k l. or-neither (p k) (q k) (g.before k l) (none k l);
          })
          ∙ sym e)
          (λ (s : some_below n p ≡ false).
          let z = first-none p n (none_found p n s) in
          first-none (λ (i : ℕ). p i || q i) n
          (λ k l. or-neither (p k) (q k) (none_found p n s k l) (none k (omega arith)))
          ∙ sym (e ∙ z))
          (cases_Bool (some_below n p))

  -- the last is that of q among the numbers from the last of p on
  pub last_or : last_below n (λ (i : ℕ). p i || q i) ≡ last_below n p + last_below (n - last_below n p) (λ (i : ℕ). q (last_below n p + i))
  last_or = from (last_below n p) refl
    where
      from : (b : ℕ) → b ≡ last_below n p → last_below n (λ (i : ℕ). p i || q i) ≡ b + last_below (n - b) (λ (i : ℕ). q (b + i))
      from b e =
          let most = last-most p n in
          let later : ℕ → Bool = λ i. q (b + i) in
          ⊎_elim {C = last_below n (λ (i : ℕ). p i || q i) ≡ b + last_below (n - b) later}
          (λ (a : some_below (n - b) later ≡ true).
          let g = last-below later (n - b) a in
          let i = last_below (n - b) later in
          last-is (λ (k : ℕ). p k || q k) n (b + i)
          (record {
            inside = omega (arith, g.inside);
            holds = or_right (p (b + i)) (q (b + i)) g.holds;
            after = λ k l m.
                or-neither (p k) (q k) (none-behind p n k (omega arith) m)
                (let s : b + (k - b) ≡ k = omega arith in
                sym (ap q s) ∙ g.after (k - b) (omega arith) (omega arith));
          }))
          (λ (a : some_below (n - b) later ≡ false).
          none-later b e (none_found later (n - b) a)
          ∙ omega (arith, last_none later (n - b) (none_found later (n - b) a)))
          (cases_Bool (some_below (n - b) later))
        where
          none-later : (b : ℕ) → b ≡ last_below n p → ((k : ℕ) → k < n - b → q (b + k) ≡ false)
              → last_below n (λ (i : ℕ). p i || q i) ≡ b
          none-later b e none =
              let behind : (k : ℕ) → b ≤ k → k < n → q k ≡ false =
              λ k l m. (let s : b + (k - b) ≡ k = omega arith in sym (ap q s) ∙ none (k - b) (omega arith)) in
              ⊎_elim {C = last_below n (λ (i : ℕ). p i || q i) ≡ b}
              (λ (s : some_below n p ≡ true).
              let g = last-below p n s in
              last-is (λ (i : ℕ). p i || q i) n (last_below n p)
              (record {
                inside = g.inside;
                holds = or_left (p (last_below n p)) (q (last_below n p)) g.holds;
                after = λ k l m. or-neither (p k) (q k) (g.after k l m) (behind k (omega arith) m);
              })
              ∙ sym e)
              (λ (s : some_below n p ≡ false).
              let z = last_none p n (none_found p n s) in
              last_none (λ (i : ℕ). p i || q i) n
              (λ k l. or-neither (p k) (q k) (none_found p n s k l) (behind k (omega arith) l))
              ∙ sym (e ∙ z))
              (cases_Bool (some_below n p))

-- the lesser of two numbers is their minimum
pub lesser-min : (a b : ℕ) → lesser_of a b ≡ min a b
unfolding lesser_of
lesser-min a b =
    ⊎_elim {C = cond (leb a b) a b ≡ min a b}
    (λ (e : leb a b ≡ true). rw e (omega (arith, leb-true a b e)))
    (λ (e : leb a b ≡ false). rw e (omega (arith, leb-false a b e)))
    (cases_Bool (leb a b))
