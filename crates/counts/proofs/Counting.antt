-- Laws of counting below n, of the count of a window, and of its running value.
-- Assumes nothing.
use Rattle.std.proofs.Common.{◌≡◌, ℕ, zero, suc, ◌+◌, ◌-◌, ◌<◌, ◌≤◌, Bool, true, false, cond, ◌&&◌, ◌||◌, ltb, leb, sym, refl, ◌∙◌, ⊎_elim, add-zero, add-one, arith, le-ltb, lt-ltb, le-leb}
use borrow.Author.Tests.{lt-leb}
use Rattle.std.proofs.Math.Bool.{and-true}
use Rattle.plane.specs.Search.{some_below, count_below}
use Rattle.plane.specs.Plane.{bit, apart}
use Rattle.plane.proofs.Search.{and_no, or_no, count_most}
use Rattle.std.proofs.lemmas.Bool.{cases_Bool, cases_lt, or_right}
use Rattle.plane.specs.Box.{lesser_of}
use Rattle.counts.specs.Running.{window_count, enters, leaves, running}
use Rattle.counts.specs.steps.Window.{in_window}
use Rattle.plane.proofs.Bounds.{lesser-min}

-- one number more
pub count-more : (n : ℕ) (p : ℕ → Bool) → count_below (n + 1) p ≡ count_below n p + bit (p n)
count-more n p = rw (add-one n) (unfold count_below bit in refl)

-- more numbers
pub count_less : (p : ℕ → Bool) (m n : ℕ) → m ≤ n → count_below m p ≤ count_below n p
unfolding count_below
count_less p m zero l = let z : m ≡ 0 = omega arith in rw z (omega arith)
count_less p m (suc n) l =
    ⊎_elim {C = count_below m p ≤ count_below n p + cond (p n) 1 0}
    (λ (a : n < m). (let z : m ≡ suc n = omega arith in rw z (omega arith)))
    (λ (a : m ≤ n). omega (arith, count_less p m n a))
    (cases_lt n m)

-- a count is not 0 exactly where the search finds
count-some : (n : ℕ) (p : ℕ → Bool) → ltb 0 (count_below n p) ≡ some_below n p
unfolding count_below some_below
count-some zero p = refl
count-some (suc n) p =
    ⊎_elim {C = ltb 0 (count_below n p + cond (p n) 1 0) ≡ some_below n p || p n}
    (λ (a : p n ≡ true).
    rw a (lt-ltb 0 (count_below n p + 1) (omega arith) ∙ sym (or_right (some_below n p) true refl)))
    (λ (a : p n ≡ false). rw (a, or_no, add-zero) (count-some n p))
    (cases_Bool (p n))

-- where q is p from a to b, and false before a and from b on, it counts what p counts from a to b
count-between : (p q : ℕ → Bool) (a n b : ℕ) → a ≤ b → b ≤ n → ((i : ℕ) → i < a → q i ≡ false) → ((i : ℕ) → a ≤ i → i < b → q i ≡ p i)
    → ((i : ℕ) → b ≤ i → i < n → q i ≡ false) → count_below n q + count_below a p ≡ count_below b p
unfolding count_below
count-between p q a zero b l m f g h = let z : a ≡ b = omega arith in rw z (omega arith)
count-between p q a (suc n) b l m f g h =
    ⊎_elim {C = count_below n q + cond (q n) 1 0 + count_below a p ≡ count_below b p}
    (λ (c : n < b).
    let z : b ≡ suc n = omega arith in
    ⊎_elim {C = count_below n q + cond (q n) 1 0 + count_below a p ≡ count_below b p}
    (λ (d : n < a).
    let none = count-between p q n n n (omega arith) (omega arith) (λ i e. f i (omega arith))
    (λ i e k. absurd (omega arith)) (λ i e k. absurd (omega arith)) in
    let y : a ≡ b = omega arith in
    rw (y, f n d) (omega arith))
    (λ (d : a ≤ n).
    let one = count-between p q a n n d (omega arith) f (λ i e k. g i e (omega arith)) (λ i e k. absurd (omega arith)) in
    rw (z, g n d c) (omega arith))
    (cases_lt n a))
    (λ (c : b ≤ n).
    let one = count-between p q a n b l c f g (λ i e k. h i e (omega arith)) in
    rw (h n c (omega arith)) (omega arith))
    (cases_lt n b)

module _ (k x : ℕ) (p : ℕ → Bool) where
  -- the window of x holds what is counted up to its end without what is counted up to its start
  pub window-count : (n b : ℕ) → x < b → b ≤ n → b ≤ x + k + 1 → (b < n → b ≡ x + k + 1)
      → window_count n k x p + count_below (x - k) p ≡ count_below b p
  unfolding window_count apart
  window-count n b l m c e =
      let far : (i : ℕ) → k < apart x i → (p i && leb (apart x i) k) ≡ false =
      λ i g. rw (lt-leb (apart x i) k g) (and_no (p i)) in
      count-between p (λ (i : ℕ). p i && leb (apart x i) k) (x - k) n b (omega arith) m (λ i g. far i (omega arith))
      (λ i g h. rw (le-leb (apart x i) k (omega arith)) (and-true (p i)))
      (λ i g h. (let z = e (omega arith) in far i (omega arith)))

  -- the count tells whether the window has one
  pub window-some : (n : ℕ) → ltb 0 (window_count n k x p) ≡ in_window n k x p
  unfolding window_count in_window
  window-some n = count-some n (λ (i : ℕ). p i && leb (apart x i) k)

-- ---- the running value

module _ (n k : ℕ) (p : ℕ → Bool) where
  -- the places before which the window of x starts, and ends, at the step to x
  abbrev start : ℕ → ℕ
  start x = x - (k + 1)

  abbrev end : ℕ → ℕ
  end x = x + k - (x + k - n)

  -- what enters, and what leaves, is what is counted further
  enters-more : (x : ℕ) → count_below (end (x + 1)) p ≡ count_below (end x) p + bit (enters n k p x)
  unfolding enters bit
  enters-more x =
      ⊎_elim {C = count_below (end (x + 1)) p ≡ count_below (end x) p + cond (ltb (x + k) n && p (x + k)) 1 0}
      (λ (l : x + k < n).
      let a : end (x + 1) ≡ x + k + 1 = omega arith in
      let b : end x ≡ x + k = omega arith in
      rw (a, b, lt-ltb (x + k) n l) (count-more (x + k) p))
      (λ (l : n ≤ x + k).
      let a : end (x + 1) ≡ n = omega arith in
      let b : end x ≡ n = omega arith in
      rw (a, b, le-ltb (x + k) n l) (omega arith))
      (cases_lt (x + k) n)

  leaves-more : (x : ℕ) → count_below (start (x + 1)) p ≡ count_below (start x) p + bit (leaves k p x)
  unfolding leaves bit
  leaves-more x =
      ⊎_elim {C = count_below (start (x + 1)) p ≡ count_below (start x) p + cond (ltb k x && p (x - (k + 1))) 1 0}
      (λ (l : k < x).
      let a : start (x + 1) ≡ x - (k + 1) + 1 = omega arith in
      rw (a, lt-ltb k x l) (count-more (x - (k + 1)) p))
      (λ (l : x ≤ k).
      let a : start (x + 1) ≡ 0 = omega arith in
      let b : start x ≡ 0 = omega arith in
      rw (a, b, le-ltb k x l) (omega arith))
      (cases_lt k x)

  -- what leaves is counted up to the window's end
  leaves_in : (x : ℕ) → x < n → count_below (start x) p + bit (leaves k p x) ≤ count_below (end x) p + bit (enters n k p x)
  leaves_in x l = omega (arith, leaves-more x, enters-more x, count_less p (start (x + 1)) (end (x + 1)) (omega arith))

  -- the value with what is counted before the window's start is what is counted up to its end
  pub running-sum : (x : ℕ) → x ≤ n → running n k p x + count_below (start x) p ≡ count_below (end x) p
  unfolding running
  running-sum zero l =
      let a : start 0 ≡ 0 = omega arith in
      let b : end 0 ≡ lesser_of k n = omega (arith, lesser-min k n) in
      rw (a, b) (unfold count_below in omega arith)
  running-sum (suc x) l =
      let a = leaves-more x in
      let b = enters-more x in
      let q : suc x ≡ x + 1 = omega arith in
      rw q (omega (arith, running-sum x (omega arith), leaves_in x l))

  -- what leaves is in the window
  pub leaves-held : (x : ℕ) → x < n → bit (leaves k p x) ≤ running n k p x + bit (enters n k p x)
  leaves-held x l = omega (arith, running-sum x (omega arith), leaves_in x l)

  pub running-most : (x : ℕ) → x ≤ n → running n k p x ≤ n
  running-most x l = omega (arith, running-sum x l, count_most p (end x))

  -- at each pixel the running value is the count of its window
  pub running-count : (x : ℕ) → x < n → running n k p (suc x) ≡ window_count n k x p
  running-count x l =
      let q : start (suc x) ≡ x - k = omega arith in
      let s = running-sum (suc x) l in
      omega (arith, rw q at s, window-count k x p n (end (suc x)) (omega arith) (omega arith) (omega arith) (λ g. omega arith))
