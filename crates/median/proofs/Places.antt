-- The order of numbers from 0 to 1 is that of their keys, so the value at place k is at or below t exactly when more than k of the
-- numbers are.
-- Assumes nothing.
use mathlib.Core.Path.{◌≡◌, refl, sym, ap, ◌∙◌, subst}
use mathlib.Core.Bool.{Bool, true, false, ◌&&◌, cond}
use mathlib.Core.List.{List, [], ◌∷◌, map}
use Prim.Native.Nat.{ℕ, zero, suc, ◌≤◌, ◌<◌}
use native.Mathlib.Nat.{le_of_suc-le-suc, not-suc-le-zero}
use native.Mathlib.Omega.{arith}
use lib.Dec.{ltb, leb}
use lib.ListN.{length, get_or, length-map}
use lib.Ieee.{Float, nan, binary64, of_bits, lt, le}
use borrow.Author.Tests.{lt-ltb, le-ltb}
use Rattle.colour.specs.Number.{plus_zero, Binary64}
use Rattle.colour.specs.Colour.{colour_ok, colours_ok}
use Rattle.colour.proofs.Zero.{plus0, plus0-plus0, Alike, plus-zero-same, plus-zero-is}
use Rattle.colour.proofs.Range.{colours-at}
use Rattle.median.specs.Median.{insert, sorted, placed}
use Rattle.median.specs.steps.Select.{at_most, nearer, least_above}
use Rattle.median.proofs.Pattern.{key, Good, lt-key, le-key, one_bits, bits-good, key-bits, ok-good, ok-key, one-good, key_one}
use Rattle.median.proofs.Pattern.{plus0-good, key-alike, alike-key}
use Rattle.median.proofs.Rank.{insert_n, sort_n, count_n, sort-length, sort-rank, least_n, next_place}

-- P holds of every number of a list
All : (Float → Type 0) → List Float → Type 0
All P [] = Unit {0}
All P (x ∷ l) = P x × All P l

module _ (P : Float → Type 0) where
  all_from : (l : List Float) → ((i : ℕ) → i < length l → P (get_or l i nan)) → All P l
  unfolding All
  all_from [] h = tt
  all_from (x ∷ l) h = (h 0 (omega arith), all_from l (λ i k. h (suc i) (omega arith)))

  all-at : (l : List Float) → All P l → (i : ℕ) → i < length l → P (get_or l i nan)
  unfolding All
  all-at [] g i h = absurd (not-suc-le-zero h)
  all-at (x ∷ l) g zero h = g.0
  all-at (x ∷ l) g (suc i) h = all-at l g.1 i (le_of_suc-le-suc h)

  -- an insertion keeps it
  insert_all : (x : Float) (l : List Float) → P x → All P l → All P (insert x l)
  unfolding All insert
  insert_all x [] g h = (g, tt)
  insert_all x (y ∷ l) g h = go (lt x y) (insert_all x l g h.1)
    where
      go : (b : Bool) → All P (insert x l) → All P (cond b (x ∷ y ∷ l) (y ∷ insert x l))
      go true r = (g, h)
      go false r = (h.0, r)

  sorted_all : (l : List Float) → All P l → All P (sorted l)
  unfolding All sorted
  sorted_all [] g = tt
  sorted_all (x ∷ l) g = insert_all x (sorted l) g.0 (sorted_all l g.1)

-- every number is a value of the format that is at least 0
abbrev Goods : List Float → Type 0
Goods = All Good

-- ---- an insertion among floats is one among their keys
insert-keys : (x : Float) (l : List Float) → Good x → Goods l → map key (insert x l) ≡ insert_n (key x) (map key l)
unfolding All insert insert_n
insert-keys x [] g h = refl
insert-keys x (y ∷ l) g h = go (lt x y) (lt-key x y g h.0) (insert-keys x l g h.1)
  where
    go : (b : Bool) → b ≡ ltb (key x) (key y) → map key (insert x l) ≡ insert_n (key x) (map key l)
        → map key (cond b (x ∷ y ∷ l) (y ∷ insert x l))
        ≡ cond (ltb (key x) (key y)) (key x ∷ key y ∷ map key l) (key y ∷ insert_n (key x) (map key l))
    go true e r = rw (sym e) refl
    go false e r = rw (sym e) (ap (λ (s : List ℕ). key y ∷ s) r)

sorted-keys : (l : List Float) → Goods l → map key (sorted l) ≡ sort_n (map key l)
unfolding All sorted sort_n
sorted-keys [] g = refl
sorted-keys (x ∷ l) g = insert-keys x (sorted l) g.0 (sorted_all Good l g.1) ∙ ap (insert_n (key x)) (sorted-keys l g.1)

count-keys : (t : Float) (l : List Float) → Good t → Goods l → at_most t l ≡ count_n (key t) (map key l)
unfolding All at_most count_n
count-keys t [] g h = refl
count-keys t (x ∷ l) g h = rw (le-key x t h.0 g, count-keys t l g h.1)

-- ---- the least number above another is that of their keys
key-cond : (b : Bool) (x y : Float) → key (cond b x y) ≡ cond b (key x) (key y)
key-cond true x y = refl
key-cond false x y = refl

cond-good : (b : Bool) (x y : Float) → Good x → Good y → Good (cond b x y)
cond-good true x y g h = g
cond-good false x y g h = h

least-good : (t : Float) (l : List Float) → Good t → Goods l → Good (least_above t l)
unfolding All least_above nearer
least-good t [] g h = one-good
least-good t (x ∷ l) g h = cond-good (lt t x && lt x (least_above t l)) x (least_above t l) h.0 (least-good t l g h.1)

least-keys : (t : Float) (l : List Float) → Good t → Goods l → key (least_above t l) ≡ least_n one_bits (key t) (map key l)
unfolding All least_above nearer least_n
least-keys t [] g h = key_one
least-keys t (x ∷ l) g h =
    key-cond (lt t x && lt x (least_above t l)) x (least_above t l)
    ∙ rw (lt-key t x g h.0, lt-key x (least_above t l) h.0 (least-good t l g h.1), least-keys t l g h.1)

-- ---- the value at place k
get_d_map : (f : Float → ℕ) (l : List Float) (k : ℕ) → k < length l → get_or (map f l) k 0 ≡ f (get_or l k nan)
get_d_map f [] k h = absurd (not-suc-le-zero h)
get_d_map f (x ∷ l) zero h = refl
get_d_map f (x ∷ l) (suc k) h = get_d_map f l k (le_of_suc-le-suc h)

module _ (l : List Float) (held : Binary64 l) (ok : colours_ok l ≡ true) where
  goods : Goods l
  goods = all_from Good l (λ i h. ok-good (get_or l i nan) (held i h) (colours-at l ok i h))

  module _ (k : ℕ) (h : k < length l) where
    inside : k < length (sorted l)
    inside =
        let e = ap length (sorted-keys l goods) in
        omega (arith, length-map (sorted l) key, sort-length (map key l), length-map l key)

    pub placed-good : Good (placed l k)
    unfolding placed
    placed-good = all-at Good (sorted l) (sorted_all Good l goods) k inside

    pub placed-ok : colour_ok (placed l k) ≡ true
    unfolding placed
    placed-ok =
        let P : Float → Type 0 = λ x. colour_ok x ≡ true in
        all-at P (sorted l) (sorted_all P l (all_from P l (colours-at l ok))) k inside

    pub placed-key : key (placed l k) ≡ get_or (sort_n (map key l)) k 0
    unfolding placed
    placed-key = sym (get_d_map key (sorted l) k inside) ∙ ap (λ (s : List ℕ). get_or s k 0) (sorted-keys l goods)

    -- the value at place k is at or below t exactly when more than k of the numbers are
    pub placed-rank : (t : Float) → Good t → ltb k (at_most t l) ≡ le (placed l k) t
    placed-rank t g =
        ap (ltb k) (count-keys t l g goods)
        ∙ sort-rank (key t) (map key l) k (subst (λ (n : ℕ). k < n) (sym (length-map l key)) h)
        ∙ ap (λ (v : ℕ). leb v (key t)) (sym placed-key)
        ∙ sym (le-key (placed l k) t placed-good g)

    -- the same for the float of a pattern
    pub bits-rank : (v : ℕ) → v ≤ one_bits → ltb k (at_most (of_bits binary64 v) l) ≡ leb (key (placed l k)) v
    bits-rank v b =
        placed-rank (of_bits binary64 v) (bits-good v b)
        ∙ le-key (placed l k) (of_bits binary64 v) placed-good (bits-good v b)
        ∙ ap (leb (key (placed l k))) (key-bits v b)

    pub placed-bound : key (placed l k) ≤ one_bits
    placed-bound = ok-key (placed l k) placed-good.held placed-ok

  -- the number at the next place: lo again, where enough numbers are at or below it, else the least above it
  module _ (k : ℕ) (h : suc k < length l) (lo : Float) (first : lo ≡ plus_zero (placed l k)) where
    before : k < length l
    before = omega arith

    place : Good (placed l k)
    place = placed-good k before

    lo-is : lo ≡ plus0 (placed l k)
    lo-is = first ∙ plus-zero-is (placed l k) place.held

    lo-good : Good lo
    lo-good = rw lo-is (plus0-good (placed l k) place)

    lo-alike : Alike lo (placed l k)
    lo-alike = ap plus0 lo-is ∙ plus0-plus0 (placed l k)

    next-key : key (placed l (suc k)) ≡ cond (ltb (suc k) (at_most lo l)) (key lo) (key (least_above lo l))
    next-key =
        let e : key lo ≡ get_or (sort_n (map key l)) k 0 = alike-key lo (placed l k) lo-alike ∙ placed-key k before in
        let n : length (map key l) ≡ length l = length-map l key in
        placed-key (suc k) h
        ∙ next_place one_bits (map key l) k (omega arith) (omega (arith, placed-key (suc k) h, placed-bound (suc k) h))
        ∙ rw (count-keys lo l lo-good goods, least-keys lo l lo-good goods, e)

    pub next-same : suc k < at_most lo l → lo ≡ plus_zero (placed l (suc k))
    next-same i =
        let e : key (placed l (suc k)) ≡ key lo = next-key ∙ rw (lt-ltb (suc k) (at_most lo l) i) in
        first
        ∙ sym (plus-zero-same lo (placed l k) lo-alike)
        ∙ plus-zero-same lo (placed l (suc k)) (key-alike lo (placed l (suc k)) lo-good.held (placed-good (suc k) h).held (sym e))

    pub next-above : at_most lo l ≤ suc k → plus_zero (least_above lo l) ≡ plus_zero (placed l (suc k))
    next-above i =
        let e : key (placed l (suc k)) ≡ key (least_above lo l) = next-key ∙ rw (le-ltb (suc k) (at_most lo l) i) in
        plus-zero-same _ _ (key-alike _ _ (least-good lo l lo-good goods).held (placed-good (suc k) h).held (sym e))
