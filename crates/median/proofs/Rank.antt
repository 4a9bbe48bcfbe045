-- Natural numbers in order: the number at place k is at most t exactly when more than k of the numbers are.
-- Assumes nothing.
use mathlib.Core.Path.{◌≡◌, refl, sym, ap, ◌∙◌}
use mathlib.Core.Bool.{Bool, true, false, cond, ◌&&◌}
use mathlib.Core.Logic.{◌⊎◌, inl, inr, ⊎_elim}
use mathlib.Core.List.{List, [], ◌∷◌}
use Prim.Native.Nat.{ℕ, zero, suc, ◌+◌, ◌≤◌, ◌<◌}
use native.Mathlib.Nat.{le_refl, le_trans, le_antisymm, le_of_lt, le_of_suc-le-suc, not-suc-le-zero, zero-add}
use native.Mathlib.Omega.{arith}
use lib.Dec.{ltb, leb, leb-suc-suc}
use lib.ListN.{length, get_or}
use Rattle.std.proofs.lemmas.Bool.{cases_lt}
use borrow.Author.Tests.{lt-ltb, le-ltb, le-leb, lt-leb, ltb-true, ltb-false, leb-true, leb-false}

-- insertion sort
unfoldable pub insert_n : ℕ → List ℕ → List ℕ
insert_n x [] = x ∷ []
insert_n x (y ∷ l) = cond (ltb x y) (x ∷ y ∷ l) (y ∷ insert_n x l)

unfoldable pub sort_n : List ℕ → List ℕ
sort_n [] = []
sort_n (x ∷ l) = insert_n x (sort_n l)

-- how many are at most t
unfoldable pub count_n : ℕ → List ℕ → ℕ
count_n t [] = 0
count_n t (x ∷ l) = cond (leb x t) 1 0 + count_n t l

-- every number is at least b
AtLeast : ℕ → List ℕ → Type 0
AtLeast b [] = Unit {0}
AtLeast b (x ∷ l) = (b ≤ x) × AtLeast b l

-- each number is at most those behind it
InOrder : List ℕ → Type 0
InOrder [] = Unit {0}
InOrder (x ∷ l) = AtLeast x l × InOrder l

-- ---- an insertion keeps order, length and counts
insert-cases : (P : List ℕ → Type 0) (x y : ℕ) (l : List ℕ)
    → (x ≤ y → P (x ∷ y ∷ l)) → (y ≤ x → P (y ∷ insert_n x l)) → P (insert_n x (y ∷ l))
unfolding insert_n
insert-cases P x y l p q = go (ltb x y) refl
  where
    go : (b : Bool) → ltb x y ≡ b → P (cond b (x ∷ y ∷ l) (y ∷ insert_n x l))
    go true e = p (le_of_lt (ltb-true x y e))
    go false e = q (ltb-false x y e)

insert-least : (b x : ℕ) (l : List ℕ) → b ≤ x → AtLeast b l → AtLeast b (insert_n x l)
unfolding AtLeast
insert-least b x [] h a = unfold insert_n in (h, tt)
insert-least b x (y ∷ l) h a = insert-cases (AtLeast b) x y l (λ i. (h, a)) (λ i. (a.0, insert-least b x l h a.1))

weaken : (b c : ℕ) (l : List ℕ) → b ≤ c → AtLeast c l → AtLeast b l
unfolding AtLeast
weaken b c [] h a = tt
weaken b c (x ∷ l) h a = (le_trans h a.0, weaken b c l h a.1)

insert-order : (x : ℕ) (l : List ℕ) → InOrder l → InOrder (insert_n x l)
unfolding InOrder AtLeast
insert-order x [] o = unfold insert_n in (tt, tt)
insert-order x (y ∷ l) o =
    insert-cases InOrder x y l
    (λ i. ((i, weaken x y l i o.0), o))
    (λ i. (insert-least y x l i o.0, insert-order x l o.1))

insert-length : (x : ℕ) (l : List ℕ) → length (insert_n x l) ≡ suc (length l)
insert-length x [] = unfold insert_n in refl
insert-length x (y ∷ l) = insert-cases (λ (r : List ℕ). length r ≡ suc (suc (length l))) x y l (λ i. refl) (λ i. ap suc (insert-length x l))

insert-count : (t x : ℕ) (l : List ℕ) → count_n t (insert_n x l) ≡ cond (leb x t) 1 0 + count_n t l
unfolding count_n
insert-count t x [] = unfold insert_n in refl
insert-count t x (y ∷ l) =
    insert-cases (λ (r : List ℕ). count_n t r ≡ cond (leb x t) 1 0 + (cond (leb y t) 1 0 + count_n t l)) x y l (λ i. refl)
    (λ i. omega (arith, insert-count t x l))

sort-order : (l : List ℕ) → InOrder (sort_n l)
unfolding sort_n InOrder
sort-order [] = tt
sort-order (x ∷ l) = insert-order x (sort_n l) (sort-order l)

pub sort-length : (l : List ℕ) → length (sort_n l) ≡ length l
unfolding sort_n
sort-length [] = refl
sort-length (x ∷ l) = insert-length x (sort_n l) ∙ ap suc (sort-length l)

pub sort-count : (t : ℕ) (l : List ℕ) → count_n t (sort_n l) ≡ count_n t l
unfolding sort_n count_n
sort-count t [] = refl
sort-count t (x ∷ l) = insert-count t x (sort_n l) ∙ ap (λ (k : ℕ). cond (leb x t) 1 0 + k) (sort-count t l)

-- ---- the rank of a place
none-counted : (t x : ℕ) (l : List ℕ) → t < x → AtLeast x l → count_n t l ≡ 0
unfolding count_n AtLeast
none-counted t x [] h a = refl
none-counted t x (y ∷ l) h a = rw (lt-leb y t (omega (arith, a.0))) (zero-add (count_n t l) ∙ none-counted t x l h a.1)

least_at : (x : ℕ) (l : List ℕ) (k : ℕ) → k < length l → AtLeast x l → x ≤ get_or l k 0
unfolding AtLeast
least_at x [] k h a = absurd (not-suc-le-zero h)
least_at x (y ∷ l) zero h a = a.0
least_at x (y ∷ l) (suc k) h a = least_at x l k (le_of_suc-le-suc h) a.1

one_more : (c : ℕ) → 1 + c ≡ suc c
one_more c = omega arith

rank : (t : ℕ) (s : List ℕ) (k : ℕ) → InOrder s → k < length s → ltb k (count_n t s) ≡ leb (get_or s k 0) t
unfolding count_n InOrder
rank t [] k o h = absurd (not-suc-le-zero h)
rank t (x ∷ s) zero o h = go (leb x t) refl
  where
    go : (b : Bool) → leb x t ≡ b → ltb 0 (cond b 1 0 + count_n t s) ≡ b
    go true e = lt-ltb 0 (1 + count_n t s) (omega arith)
    go false e = le-ltb 0 (0 + count_n t s) (let z = none-counted t x s (leb-false x t e) o.0 in omega arith)
rank t (x ∷ s) (suc k) o h = go (leb x t) refl (rank t s k o.1 l)
  where
    l : k < length s
    l = le_of_suc-le-suc h

    go : (b : Bool) → leb x t ≡ b → ltb k (count_n t s) ≡ leb (get_or s k 0) t → ltb (suc k) (cond b 1 0 + count_n t s) ≡ leb (get_or s k 0) t
    go true e r = ap (ltb (suc k)) (one_more (count_n t s)) ∙ leb-suc-suc (suc k) (count_n t s) ∙ r
    go false e r =
        let z = none-counted t x s (leb-false x t e) o.0 in
        let m = least_at x s k l o.0 in
        le-ltb (suc k) (0 + count_n t s) (omega arith) ∙ sym (lt-leb (get_or s k 0) t (omega (arith, leb-false x t e)))

-- the number at place k in order is at most t exactly when more than k of the numbers are
pub sort-rank : (t : ℕ) (l : List ℕ) (k : ℕ) → k < length l → ltb k (count_n t l) ≡ leb (get_or (sort_n l) k 0) t
sort-rank t l k h = ap (ltb k) (sym (sort-count t l)) ∙ rank t (sort_n l) k (sort-order l) (omega (arith, sort-length l))

-- ---- the number at the next place
-- the least number above a; b where none lies between
unfoldable pub least_n : ℕ → ℕ → List ℕ → ℕ
least_n b a [] = b
least_n b a (x ∷ l) = cond (ltb a x && ltb x (least_n b a l)) x (least_n b a l)

count-mono : (s t : ℕ) (l : List ℕ) → s ≤ t → count_n s l ≤ count_n t l
unfolding count_n
count-mono s t [] h = omega arith
count-mono s t (x ∷ l) h = go (leb x s) refl (count-mono s t l h)
  where
    go : (i : Bool) → leb x s ≡ i → count_n s l ≤ count_n t l → cond i 1 0 + count_n s l ≤ cond (leb x t) 1 0 + count_n t l
    go true e r = rw (le-leb x t (omega (arith, leb-true x s e))) (omega arith)
    go false e r = omega arith

module _ (b a : ℕ) where
  -- the three ways in which the least number above a comes about
  least-cases : (P : ℕ → Type 0) (x : ℕ) (l : List ℕ) → (a < x → x < least_n b a l → P x) → (x ≤ a → P (least_n b a l))
      → (a < x → least_n b a l ≤ x → P (least_n b a l)) → P (least_n b a (x ∷ l))
  unfolding least_n
  least-cases P x l p q r = go (ltb a x) refl (ltb x (least_n b a l)) refl
    where
      go : (i : Bool) → ltb a x ≡ i → (j : Bool) → ltb x (least_n b a l) ≡ j → P (cond (i && j) x (least_n b a l))
      go true e true d = p (ltb-true _ _ e) (ltb-true _ _ d)
      go true e false d = r (ltb-true _ _ e) (ltb-false _ _ d)
      go false e j d = q (ltb-false _ _ e)

  -- between a and the least number above it nothing more is counted
  gap-count : (s : ℕ) (l : List ℕ) → a ≤ s → s < least_n b a l → count_n s l ≡ count_n a l
  unfolding count_n
  gap-count s [] h k = refl
  gap-count s (x ∷ l) h k =
      least-cases (λ (r : ℕ). s < r → cond (leb x s) 1 0 + count_n s l ≡ cond (leb x a) 1 0 + count_n a l) x l
      (λ i j d. rw (lt-leb x s (omega arith), lt-leb x a (omega arith), gap-count s l h (omega arith)))
      (λ i d. rw (le-leb x s (omega arith), le-leb x a (omega arith), gap-count s l h (omega arith)))
      (λ i j d. rw (lt-leb x s (omega arith), lt-leb x a (omega arith), gap-count s l h (omega arith)))
      k

  -- unless it is b, one more is counted there
  more-count : (l : List ℕ) → (least_n b a l ≡ b) ⊎ ((a < least_n b a l) × (count_n a l < count_n (least_n b a l) l))
  unfolding count_n
  more-count [] = unfold least_n in inl refl
  more-count (x ∷ l) =
      least-cases (λ (r : ℕ). (r ≡ b) ⊎ ((a < r) × (cond (leb x a) 1 0 + count_n a l < cond (leb x r) 1 0 + count_n r l))) x l
      (λ i j. inr (i, rw (lt-leb x a i, le-leb x x (le_refl x)) (let m = count-mono a x l (le_of_lt i) in omega arith)))
      (λ i.
      ⊎_elim (λ e. inl e)
      (λ m. inr (m.0, rw (le-leb x a i, le-leb x (least_n b a l) (omega (arith, m.0))) (omega (arith, m.1))))
      (more-count l))
      (λ i j. ⊎_elim (λ e. inl e) (λ m. inr (m.0, rw (lt-leb x a i) (omega (arith, m.1)))) (more-count l))

-- the number at the next place is the same again, where enough numbers are at most that, else the least number above it
pub next_place : (b : ℕ) (l : List ℕ) (k : ℕ) → suc k < length l → get_or (sort_n l) (suc k) 0 ≤ b
    → get_or (sort_n l) (suc k) 0 ≡ cond (ltb (suc k) (count_n (get_or (sort_n l) k 0) l)) (get_or (sort_n l) k 0) (least_n b (get_or (sort_n l) k 0) l)
next_place b l k h u =
    let x = get_or (sort_n l) k 0 in
    let y = get_or (sort_n l) (suc k) 0 in
    let i : k < length l = omega arith in
    let cx : k < count_n x l = ltb-true _ _ (sort-rank x l k i ∙ le-leb x x (le_refl x)) in
    let cy : suc k < count_n y l = ltb-true _ _ (sort-rank y l (suc k) h ∙ le-leb y y (le_refl y)) in
    let up : x ≤ y = leb-true _ _ (sym (sort-rank y l k i) ∙ lt-ltb k (count_n y l) (omega arith)) in
    go x y cx cy up (sort-rank x l (suc k) h) u (sort-rank (least_n b x l) l (suc k) h) (ltb (suc k) (count_n x l)) refl
  where
    go : (x y : ℕ) → k < count_n x l → suc k < count_n y l → x ≤ y → ltb (suc k) (count_n x l) ≡ leb y x → y ≤ b
        → ltb (suc k) (count_n (least_n b x l) l) ≡ leb y (least_n b x l)
        → (t : Bool) → ltb (suc k) (count_n x l) ≡ t → y ≡ cond t x (least_n b x l)
    go x y cx cy up rx u rr true e = le_antisymm (leb-true _ _ (sym rx ∙ e)) up
    go x y cx cy up rx u rr false e =
        let few : count_n x l ≤ suc k = ltb-false (suc k) (count_n x l) e in
        le_antisymm
        (⊎_elim (λ z. omega arith)
        (λ m. leb-true y (least_n b x l) (sym rr ∙ lt-ltb (suc k) _ (omega (arith, m.1))))
        (more-count b x l))
        (⊎_elim
        (λ (g : y < least_n b x l). absurd (omega (arith, gap-count b x y l up g)))
        (λ (g : least_n b x l ≤ y). g)
        (cases_lt y (least_n b x l)))
