-- The first pixel of a part: it is joined to every pixel of the part, is the least of them, and is the same for all.
-- Assumes nothing.
use mathlib.Core.Path.{◌≡◌, refl, sym, ap, ◌∙◌}
use mathlib.Core.Bool.{Bool, true, false, cond, ◌&&◌, ◌||◌}
use mathlib.Core.Logic.{◌⊎◌, inl, inr, ⊎_elim}
use mathlib.Core.List.{List}
use Prim.Native.Nat.{ℕ, zero, suc, ◌*◌, ◌≤◌, ◌<◌}
use native.Mathlib.Nat.{not-suc-le-zero}
use native.Mathlib.Omega.{arith}
use lib.Dec.{eqb, leb}
use lib.ListN.{length, get_or, length-map}
use borrow.Author.Tests.{le-leb, lt-leb, eqb-true, eq-eqb}
use Rattle.std.proofs.lemmas.List.{get_or-map}
use Rattle.plane.specs.Plane.{table}
use Rattle.plane.proofs.Plane.{table_at, table-length}
use Rattle.std.proofs.lemmas.Bool.{and_parts, cases_Bool, cases_lt, or_right}
use Rattle.plane.specs.Mask.{is_on}
use Rattle.labels.specs.Labels.{beside, Joined, same, onward, renamed, merge, join_two, join_with, join_upto}
use Rattle.plane.specs.Box.{lesser_of}
use Rattle.labels.specs.Labels.{first_pixel, is_first}
use Rattle.plane.proofs.Mask.{on-inside}
use Rattle.labels.proofs.Joined.{beside_back, start-on, end_on, joined-trans, joined-sym}
use Rattle.plane.proofs.Bounds.{lesser-min}

merge-at : (a b : ℕ) (numbers : List ℕ) (k : ℕ) → k < length numbers → get_or (merge a b numbers) k 0 ≡ renamed a b (get_or numbers k 0)
unfolding merge
merge-at a b numbers k h = get_or-map (renamed a b) numbers k 0 0 h

merge-long : (a b : ℕ) (numbers : List ℕ) → length (merge a b numbers) ≡ length numbers
unfolding merge
merge-long a b numbers = length-map numbers (renamed a b)

pub renamed-left : (a b : ℕ) → renamed a b a ≡ lesser_of a b
unfolding renamed
renamed-left a b = simp (eq-eqb a a refl)

pub renamed-right : (a b : ℕ) → renamed a b b ≡ lesser_of a b
unfolding renamed
renamed-right a b = rw (or_right (eqb b a) (eqb b b) (eq-eqb b b refl))

-- a number is one of the two, and renamed to the lesser, or stays
abbrev pub Cases : ℕ → ℕ → ℕ → Type 0
Cases a b n = (((n ≡ a) ⊎ (n ≡ b)) × (renamed a b n ≡ lesser_of a b)) ⊎ (renamed a b n ≡ n)

pub renamed-cases : (a b n : ℕ) → Cases a b n
unfolding renamed
renamed-cases a b n = cases (eqb n a) (eqb n b) refl refl
  where
    Out : Bool → Bool → ℕ
    Out s t = cond (s || t) (lesser_of a b) n

    cases : (s t : Bool) → eqb n a ≡ s → eqb n b ≡ t → (((n ≡ a) ⊎ (n ≡ b)) × (Out s t ≡ lesser_of a b)) ⊎ (Out s t ≡ n)
    cases true t e g = inl (inl (eqb-true n a e), refl)
    cases false true e g = inl (inr (eqb-true n b g), refl)
    cases false false e g = inr refl

-- the lesser of two numbers is one of them
pub lesser-cases : (a b : ℕ) → ((lesser_of a b ≡ a) × (a ≤ b)) ⊎ ((lesser_of a b ≡ b) × (b ≤ a))
unfolding lesser_of
lesser-cases a b =
    ⊎_elim {C = ((cond (leb a b) a b ≡ a) × (a ≤ b)) ⊎ ((cond (leb a b) a b ≡ b) × (b ≤ a))}
    (λ (l : b < a). inr (rw (lt-leb a b l), omega arith))
    (λ (l : a ≤ b). inl (rw (le-leb a b l), l))
    (cases_lt b a)

-- the pixels i and j carry one number
abbrev Alike : List ℕ → ℕ → ℕ → Type 0
Alike l i j = get_or l i 0 ≡ get_or l j 0

module _ (mask : List ℕ) (w : ℕ) where
  -- the lesser_of of two numbers that are joined is joined to both
  lesser-joined : (a b : ℕ) → Joined mask w a b → Joined mask w (lesser_of a b) a
  lesser-joined a b r =
      ⊎_elim {C = Joined mask w (lesser_of a b) a} (λ z. rw z.0 (same (start-on r))) (λ z. rw z.0 (joined-sym r)) (lesser-cases a b)

  -- every on-pixel carries the number of a pixel joined to it that is not after it
  record Sound (numbers : List ℕ) : Type 0 where
    long : length numbers ≡ length mask
    joined : (i : ℕ) → is_on mask i ≡ true → Joined mask w (get_or numbers i 0) i
    least : (i : ℕ) → is_on mask i ≡ true → get_or numbers i 0 ≤ i

  module _ (numbers : List ℕ) (s : Sound numbers) where
    inside : (i : ℕ) → is_on mask i ≡ true → i < length numbers
    inside i e = let z = on-inside mask i e in omega (arith, s.long)

    merge-sound : (a b : ℕ) → Joined mask w a b → Sound (merge a b numbers)
    merge-sound a b r = record {
      long = merge-long a b numbers ∙ s.long;
      joined = λ i e. rw (merge-at a b numbers i (inside i e)) (joined_at i e (renamed-cases a b (get_or numbers i 0)));
      least = λ i e. rw (merge-at a b numbers i (inside i e)) (least_at i e (renamed-cases a b (get_or numbers i 0)));
    }
      where
        joined_at : (i : ℕ) → is_on mask i ≡ true → Cases a b (get_or numbers i 0) → Joined mask w (renamed a b (get_or numbers i 0)) i
        joined_at i e (inl (inl q, z)) = rw z (joined-trans (lesser-joined a b r) (rw q at (s.joined i e)))
        joined_at i e (inl (inr q, z)) = rw z (joined-trans (joined-trans (lesser-joined a b r) r) (rw q at (s.joined i e)))
        joined_at i e (inr z) = rw z (s.joined i e)

        least_at : (i : ℕ) → is_on mask i ≡ true → Cases a b (get_or numbers i 0) → renamed a b (get_or numbers i 0) ≤ i
        least_at i e (inl (inl q, z)) = rw z (omega (arith, lesser-min a b, s.least i e))
        least_at i e (inl (inr q, z)) = rw z (omega (arith, lesser-min a b, s.least i e))
        least_at i e (inr z) = rw z (s.least i e)

    merge_keeps : (a b i j : ℕ) → is_on mask i ≡ true → is_on mask j ≡ true → Alike numbers i j → Alike (merge a b numbers) i j
    merge_keeps a b i j e g q = merge-at a b numbers i (inside i e) ∙ ap (renamed a b) q ∙ sym (merge-at a b numbers j (inside j g))

    merge-does : (i j : ℕ) → is_on mask i ≡ true → is_on mask j ≡ true → Alike (merge (get_or numbers i 0) (get_or numbers j 0) numbers) i j
    merge-does i j e g =
        let a = get_or numbers i 0 in
        let b = get_or numbers j 0 in
        merge-at a b numbers i (inside i e) ∙ renamed-left a b ∙ sym (merge-at a b numbers j (inside j g) ∙ renamed-right a b)

    -- the two are joined, or nothing changes
    tested : (i j : ℕ) → (is_on mask i && is_on mask j && beside w i j ≡ true) ⊎ (is_on mask i && is_on mask j && beside w i j ≡ false)
    tested i j = cases_Bool (is_on mask i && is_on mask j && beside w i j)

    two-sound : (i j : ℕ) → Sound (join_two mask w i j numbers)
    unfolding join_two
    two-sound i j =
        ⊎_elim {C = Sound (join_two mask w i j numbers)}
        (λ (t : is_on mask i && is_on mask j && beside w i j ≡ true). (
        let both = and_parts (is_on mask i && is_on mask j) (beside w i j) t in
        let ons = and_parts (is_on mask i) (is_on mask j) both.0 in
        let r = joined-trans (s.joined i ons.0) (onward (same ons.0) both.1 ons.1) in
        rw t (merge-sound (get_or numbers i 0) (get_or numbers j 0) (joined-trans r (joined-sym (s.joined j ons.1))))))
        (λ (t : is_on mask i && is_on mask j && beside w i j ≡ false). rw t s)
        (tested i j)

    two-keeps : (i j p q : ℕ) → is_on mask p ≡ true → is_on mask q ≡ true → Alike numbers p q → Alike (join_two mask w i j numbers) p q
    unfolding join_two
    two-keeps i j p q e g r =
        ⊎_elim {C = Alike (join_two mask w i j numbers) p q}
        (λ (t : is_on mask i && is_on mask j && beside w i j ≡ true). rw t (merge_keeps (get_or numbers i 0) (get_or numbers j 0) p q e g r))
        (λ (t : is_on mask i && is_on mask j && beside w i j ≡ false). rw t r)
        (tested i j)

    two-does : (i j : ℕ) → is_on mask i ≡ true → is_on mask j ≡ true → beside w i j ≡ true → Alike (join_two mask w i j numbers) i j
    unfolding join_two
    two-does i j e g b = simp (e, g, b) (merge-does i j e g)

  with-sound : (numbers : List ℕ) → Sound numbers → (i n : ℕ) → Sound (join_with mask w i n numbers)
  unfolding join_with
  with-sound numbers s i zero = s
  with-sound numbers s i (suc n) = two-sound (join_with mask w i n numbers) (with-sound numbers s i n) i n

  module _ (numbers : List ℕ) (s : Sound numbers) where
    with-keeps : (i n p q : ℕ) → is_on mask p ≡ true → is_on mask q ≡ true → Alike numbers p q → Alike (join_with mask w i n numbers) p q
    unfolding join_with
    with-keeps i zero p q e g r = r
    with-keeps i (suc n) p q e g r =
        two-keeps (join_with mask w i n numbers) (with-sound numbers s i n) i n p q e g (with-keeps i n p q e g r)

    with-does : (i n j : ℕ) → j < n → is_on mask i ≡ true → is_on mask j ≡ true → beside w i j ≡ true
        → Alike (join_with mask w i n numbers) i j
    unfolding join_with
    with-does i zero j l e g b = absurd (not-suc-le-zero l)
    with-does i (suc n) j l e g b =
        let before = join_with mask w i n numbers in
        let t = with-sound numbers s i n in
        ⊎_elim {C = Alike (join_two mask w i n before) i j}
        (λ (m : j < n). two-keeps before t i n i j e g (with-does i n j m e g b))
        (λ (m : n ≤ j). (
        let q : j ≡ n = omega arith in
        let g' : is_on mask n ≡ true = rw q at g in
        let b' : beside w i n ≡ true = rw q at b in
        rw q (two-does before t i n e g' b')))
        (cases_lt j n)

module _ (mask : List ℕ) (h w : ℕ) (fits : length mask ≡ h * w) where
  upto-sound : (n : ℕ) → Sound mask w (join_upto mask h w n)
  unfolding join_upto
  upto-sound zero = record {
    long = table-length (λ (i : ℕ). i) 0 (h * w) ∙ sym fits;
    joined = λ i e. rw (own i e) (same e);
    least = λ i e. (let q = own i e in omega arith);
  }
    where
      own : (i : ℕ) → is_on mask i ≡ true → get_or (table (λ (k : ℕ). k) 0 (h * w)) i 0 ≡ i
      own i e = let l = on-inside mask i e in table_at (λ (k : ℕ). k) (h * w) i 0 (omega arith)
  upto-sound (suc n) = with-sound mask w (join_upto mask h w n) (upto-sound n) n n

  upto-does : (n i j : ℕ) → i < n → j < i → is_on mask i ≡ true → is_on mask j ≡ true → beside w i j ≡ true → Alike (join_upto mask h w n) i j
  unfolding join_upto
  upto-does zero i j l m e g b = absurd (not-suc-le-zero l)
  upto-does (suc n) i j l m e g b =
      let before = join_upto mask h w n in
      ⊎_elim {C = Alike (join_with mask w n n before) i j}
      (λ (a : i < n). with-keeps mask w before (upto-sound n) n n i j e g (upto-does n i j a m e g b))
      (λ (a : n ≤ i). (
      let q : i ≡ n = omega arith in
      let e' : is_on mask n ≡ true = rw q at e in
      let b' : beside w n j ≡ true = rw q at b in
      rw q (with-does mask w before (upto-sound n) n n j (omega arith) e' g b')))
      (cases_lt i n)

  -- the first pixel of a pixel's part is joined to it
  pub first-joined : (i : ℕ) → is_on mask i ≡ true → Joined mask w (first_pixel mask h w i) i
  unfolding first_pixel
  first-joined i e = (upto-sound (h * w)).joined i e

  -- and is not after it
  pub first-least : (i : ℕ) → is_on mask i ≡ true → first_pixel mask h w i ≤ i
  unfolding first_pixel
  first-least i e = (upto-sound (h * w)).least i e

  one-step : (i j : ℕ) → is_on mask i ≡ true → is_on mask j ≡ true → beside w i j ≡ true → first_pixel mask h w i ≡ first_pixel mask h w j
  unfolding first_pixel
  one-step i j e g b =
      let l = on-inside mask i e in
      let m = on-inside mask j g in
      ⊎_elim {C = Alike (join_upto mask h w (h * w)) i j}
      (λ (a : j < i). upto-does (h * w) i j (omega arith) a e g b)
      (λ (a : i ≤ j).
      ⊎_elim {C = Alike (join_upto mask h w (h * w)) i j}
      (λ (k : i < j). sym (upto-does (h * w) j i (omega arith) k g e (beside_back w j i ∙ b)))
      (λ (k : j ≤ i). (let q : i ≡ j = omega arith in ap (λ (n : ℕ). get_or (join_upto mask h w (h * w)) n 0) q))
      (cases_lt i j))
      (cases_lt j i)

  -- pixels that are joined have one first pixel
  pub first_same : {i j : ℕ} → Joined mask w i j → first_pixel mask h w i ≡ first_pixel mask h w j
  first_same (same e) = refl
  first_same (onward {j = j} {k = k} r b e) = first_same r ∙ one-step j k (end_on r) e b

  -- and pixels that have one first pixel are joined
  pub same_first : (i j : ℕ) → is_on mask i ≡ true → is_on mask j ≡ true → first_pixel mask h w i ≡ first_pixel mask h w j → Joined mask w i j
  same_first i j e g q = joined-trans (rw q at (joined-sym (first-joined i e))) (first-joined j g)

  -- a part's first pixel is its own first pixel
  pub first-first : (i : ℕ) → is_on mask i ≡ true → first_pixel mask h w (first_pixel mask h w i) ≡ first_pixel mask h w i
  first-first i e = first_same (first-joined i e)

  pub is-first : (i : ℕ) → is_on mask i ≡ true → is_first mask h w (first_pixel mask h w i) ≡ true
  unfolding is_first
  is-first i e = let f = first_pixel mask h w i in simp (start-on (first-joined i e), eq-eqb (first_pixel mask h w f) f (first-first i e))

  pub first_on : (i : ℕ) → is_first mask h w i ≡ true → (is_on mask i ≡ true) × (first_pixel mask h w i ≡ i)
  unfolding is_first
  first_on i t = let z = and_parts (is_on mask i) (eqb (first_pixel mask h w i) i) t in (z.0, eqb-true (first_pixel mask h w i) i z.1)
