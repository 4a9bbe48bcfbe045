-- The numbers of the roots, and that they are the labels.
-- Assumes nothing.
use mathlib.Core.Path.{◌≡◌, refl, sym, ap, ◌∙◌}
use mathlib.Core.Bool.{Bool, true, false, cond}
use mathlib.Core.Logic.{⊎_elim}
use mathlib.Core.List.{List}
use Prim.Native.Nat.{ℕ, zero, suc, ◌+◌, ◌*◌, ◌≤◌, ◌<◌}
use native.Mathlib.Nat.{not-suc-le-zero}
use native.Mathlib.Numerals.{add-one}
use native.Mathlib.Omega.{arith}
use lib.Dec.{eqb, ltb}
use lib.ListN.{length, get_or, set, length-set}
use lib.Seq.{get_or-set_other}
use borrow.Author.Tests.{eqb-true, eqb-false, eq-eqb, ne_eqb, lt-ltb, ltb-true}
use Rattle.plane.specs.Search.{count_below}
use Rattle.plane.proofs.Plane.{plane-is, pixel-in}
use Rattle.plane.proofs.Search.{not-both}
use Rattle.std.proofs.lemmas.Bool.{and_parts, cases_Bool, cases_lt}
use Rattle.plane.specs.Mask.{is_on}
use Rattle.labels.specs.Labels.{Joined, first_pixel, is_first, parts, label_of, label_at, labels_plane}
use Rattle.labels.specs.steps.Trees.{Forest, Trees, Scanned, is_root, Numbered}
use Rattle.labels.proofs.Counts.{count-more, count-no-more, count-gap, count-slow}
use Rattle.plane.proofs.Mask.{on-inside}
use Rattle.labels.proofs.Joined.{start-on, spreads}
use Rattle.labels.proofs.Firsts.{first-joined, first-least, first_same, is-first, first_on}
use Rattle.labels.proofs.Laws.{label-on, label-off}
use Rattle.labels.proofs.Forests.{set_cases}
use Rattle.std.proofs.Math.Arith.{lt_of_le-ne}

-- ---- numbering

root_is : (parents : List ℕ) (l : ℕ) → 0 < l → get_or parents l 0 ≡ l → is_root parents l ≡ true
unfolding is_root
root_is parents l p e = simp (lt-ltb 0 l p, eq-eqb (get_or parents l 0) l e)

root-not : (parents : List ℕ) (l : ℕ) → 0 < l → (get_or parents l 0 ≡ l → ⊥) → is_root parents l ≡ false
unfolding is_root
root-not parents l p e = simp (lt-ltb 0 l p, ne_eqb (get_or parents l 0) l e)

root-at : (parents : List ℕ) (l : ℕ) → is_root parents l ≡ true → (0 < l) × (get_or parents l 0 ≡ l)
unfolding is_root
root-at parents l t = let z = and_parts (ltb 0 l) (eqb (get_or parents l 0) l) t in (ltb-true 0 l z.0, eqb-true (get_or parents l 0) l z.1)

-- 0 is no root
pub count-few : (parents : List ℕ) (k : ℕ) → 1 ≤ k → count_below k (is_root parents) < k
unfolding count_below is_root
count-few parents zero l = absurd (not-suc-le-zero l)
count-few parents (suc zero) l = omega arith
count-few parents (suc (suc k)) l =
    let z = count-few parents (suc k) (omega arith) in
    ⊎_elim {C = count_below (suc k) (is_root parents) + cond (is_root parents (suc k)) 1 0 < suc (suc k)}
    (λ e. rw e (omega arith)) (λ e. rw e (omega arith)) (cases_Bool (is_root parents (suc k)))

module _ (old : List ℕ) (m : ℕ) (t : Trees old m) where
  -- before the first label
  pub none-numbered : Numbered old old m 1 0
  unfolding count_below is_root
  none-numbered = record {
    long = refl;
    count = refl;
    zero = omega (arith, t.forest.down 0 (omega arith));
    done = λ rep f l a b. absurd (omega arith);
    rest = λ l a. refl;
  }

  -- label k more
  module _ (new : List ℕ) (k n : ℕ) (low : 1 ≤ k) (high : k ≤ m) (g : Numbered old new m k n) where
    abbrev value : ℕ
    value = cond (eqb (get_or new k 0) k) (n + 1) (get_or new (get_or new k 0) 0)

    abbrev count' : ℕ
    count' = cond (eqb (get_or new k 0) k) (n + 1) n

    same-k : get_or new k 0 ≡ get_or old k 0
    same-k = g.rest k (omega arith)

    k-in : k < length new
    k-in = omega (arith, g.long, t.forest.room)

    -- the value of label k is its root's number
    value-is : (rep : ℕ → ℕ) → Forest old m rep → value ≡ 1 + count_below (rep k) (is_root old)
    value-is rep f =
        ⊎_elim {C = value ≡ 1 + count_below (rep k) (is_root old)}
        (λ (e : eqb (get_or new k 0) k ≡ true). (
        let r = f.top k high (sym same-k ∙ eqb-true (get_or new k 0) k e) in
        rw (e, r) (omega (arith, g.count))))
        (λ (e : eqb (get_or new k 0) k ≡ false). (
        let ne = eqb-false (get_or new k 0) k e in
        let p = get_or new k 0 in
        let d : p ≤ k = omega (arith, same-k, f.down k high) in
        let a : rep p ≡ rep k = ap rep same-k ∙ f.along k high in
        let less : p < k = lt_of_le-ne d ne in
        let some : 0 < p = omega (arith, a, f.some k low, f.low p) in
        rw e (g.done rep f p some less ∙ ap (λ (i : ℕ). 1 + count_below i (is_root old)) a)))
        (cases_Bool (eqb (get_or new k 0) k))

    count-is : count' ≡ count_below (k + 1) (is_root old)
    count-is =
        ⊎_elim {C = count' ≡ count_below (k + 1) (is_root old)}
        (λ (e : eqb (get_or new k 0) k ≡ true).
        let root = root_is old k low (sym same-k ∙ eqb-true (get_or new k 0) k e) in
        rw (e, add-one k) (omega (arith, g.count, count-more (is_root old) k root)))
        (λ (e : eqb (get_or new k 0) k ≡ false).
        let no-root = root-not old k low (λ q. eqb-false (get_or new k 0) k e (same-k ∙ q)) in
        rw (e, add-one k) (omega (arith, g.count, count-no-more (is_root old) k no-root)))
        (cases_Bool (eqb (get_or new k 0) k))

    pub one-numbered : Numbered old (set new k value) m (k + 1) count'
    one-numbered = record {
      long = length-set new k value ∙ g.long;
      count = count-is;
      zero = get_or-set_other new k 0 value 0 (λ q. omega arith) ∙ g.zero;
      done = λ rep f l a b.
          ⊎_elim {C = get_or (set new k value) l 0 ≡ 1 + count_below (rep l) (is_root old)}
          (λ z. z.1 ∙ value-is rep f ∙ ap (λ (i : ℕ). 1 + count_below (rep i) (is_root old)) (sym z.0))
          (λ z. z.1 ∙ g.done rep f l a (lt_of_le-ne (omega arith) z.0))
          (set_cases new k value k-in l);
      rest = λ l a. get_or-set_other new k l value 0 (λ q. omega arith) ∙ g.rest l (omega arith);
    }

-- ---- the numbers are the labels

nothing : (p : ℕ → Bool) → count_below 0 p ≡ 0
unfolding count_below
nothing p = refl

-- one number more on both sides
one_each : (p q : ℕ → Bool) (a b : ℕ) → count_below a p ≡ count_below b q → p a ≡ q b → count_below (suc a) p ≡ count_below (suc b) q
unfolding count_below
one_each p q a b e g = rw (e, g)

module _ {mask labels parents : List ℕ} {h w m : ℕ} (fits : length mask ≡ h * w) (s : Scanned mask labels parents h w (h * w) m) where
  abbrev lab : ℕ → ℕ
  lab k = get_or labels k 0

  in-plane : (k : ℕ) → is_on mask k ≡ true → k < h * w
  in-plane k o = omega (arith, on-inside mask k o)

  -- pixels that are joined have one root
  one-root : {i j : ℕ} → Joined mask w i j → s.rep (lab i) ≡ s.rep (lab j)
  one-root {i} {j} r =
      (spreads (λ (k : ℕ). (is_on mask k ≡ true) × (s.rep (lab i) ≡ s.rep (lab k)))
      (λ a b p d o. (o, p.1 ∙ s.alike a b (in-plane a p.0) (in-plane b o) p.0 o d))
      r (start-on r, refl)).1

  -- labels and their seeds are in one order
  seeds-order : (a b : ℕ) → 0 < a → a ≤ m → 0 < b → b ≤ m → s.seed a ≤ s.seed b → a ≤ b
  seeds-order a b p q u v l =
      ⊎_elim {C = a ≤ b} (λ (z : b < a). absurd (omega (arith, s.rises b a u z q))) (λ (z : a ≤ b). z) (cases_lt b a)

  order-seeds : (a b : ℕ) → 0 < a → a ≤ b → b ≤ m → s.seed a ≤ s.seed b
  order-seeds a b p l q =
      ⊎_elim {C = s.seed a ≤ s.seed b}
      (λ (z : a < b). omega (arith, s.rises a b p z q))
      (λ (z : b ≤ a). (let e : a ≡ b = omega arith in rw e (omega arith)))
      (cases_lt a b)

  -- a first pixel has a label, whose seed it is
  first-label : (k : ℕ) → is_first mask h w k ≡ true → (0 < lab k) × (lab k ≤ m) × (s.seed (lab k) ≡ k)
  first-label k f =
      let o = (first_on mask h w fits k f).0 in
      let z = s.on k (in-plane k o) o in
      (z.0, z.1, s.starts k (in-plane k o) f)

  -- the seed of a root is the first pixel of its part
  root-first : (l : ℕ) → 0 < l → l ≤ m → s.rep l ≡ l → first_pixel mask h w (s.seed l) ≡ s.seed l
  root-first l p q e =
      let o = s.own l p q in
      let f = first_pixel mask h w (s.seed l) in
      let z = first-label f (is-first mask h w fits (s.seed l) o.0) in
      let c : s.rep (lab f) ≡ l = one-root (first-joined mask h w fits (s.seed l) o.0) ∙ ap s.rep o.1 ∙ e in
      let i : l ≤ lab f = omega (arith, c, s.forest.low (lab f)) in
      let low = first-least mask h w fits (s.seed l) o.0 in
      let j : lab f ≤ l = seeds-order (lab f) l z.0 z.1 p q (omega (arith, z.2)) in
      let n : lab f ≡ l = omega arith in
      sym z.2 ∙ ap s.seed n

  -- the root of a pixel's label has the first pixel of its part as its seed
  root-seed : (k : ℕ) → is_on mask k ≡ true → s.seed (s.rep (lab k)) ≡ first_pixel mask h w k
  root-seed k o =
      let z = s.on k (in-plane k o) o in
      let r = s.rep (lab k) in
      let low : r ≤ m = omega (arith, s.forest.low (lab k), z.1) in
      sym (root-first r (s.forest.some (lab k) z.0) low (s.forest.again (lab k)))
      ∙ first_same mask h w fits (s.joined k (in-plane k o) o)

  -- a label is a root exactly when its seed is a first pixel
  root-parent : (l : ℕ) → l ≤ m → s.rep l ≡ l → get_or parents l 0 ≡ l
  root-parent l q e = omega (arith, s.forest.along l q, s.forest.low (get_or parents l 0), s.forest.down l q)

  root_alike : (l : ℕ) → 0 < l → l ≤ m → is_root parents l ≡ is_first mask h w (s.seed l)
  root_alike l p q =
      ⊎_elim {C = is_root parents l ≡ is_first mask h w (s.seed l)}
      (λ (t : is_root parents l ≡ true). (
      let e = root-first l p q (s.forest.top l q (root-at parents l t).1) in
      t ∙ sym (rw e at (is-first mask h w fits (s.seed l) (s.own l p q).0))))
      (λ (t : is_root parents l ≡ false).
      ⊎_elim {C = is_root parents l ≡ is_first mask h w (s.seed l)}
      (λ (f : is_first mask h w (s.seed l) ≡ true). (
      let o = s.own l p q in
      let g = root-seed (s.seed l) o.0 ∙ (first_on mask h w fits (s.seed l) f).1 in
      let n : s.seed (s.rep l) ≡ s.seed l = rw o.1 at g in
      let i = seeds-order l (s.rep l) p q (s.forest.some l p) (omega (arith, s.forest.low l)) (omega arith) in
      let e : s.rep l ≡ l = omega (arith, s.forest.low l) in
      not-both (is_root parents l) (root_is parents l p (root-parent l q e)) t))
      (λ (f : is_first mask h w (s.seed l) ≡ false). t ∙ sym f)
      (cases_Bool (is_first mask h w (s.seed l))))
      (cases_Bool (is_root parents l))

  -- where the seeds up to label l end
  end_of : ℕ → ℕ
  end_of zero = 0
  end_of (suc l) = s.seed (suc l) + 1

  end_is : (l : ℕ) → 0 < l → end_of l ≡ s.seed l + 1
  unfolding end_of
  end_is zero p = absurd (not-suc-le-zero p)
  end_is (suc l) p = refl

  -- no first pixel lies between two seeds, or after the last
  none_between : (l k : ℕ) → l ≤ m → end_of l ≤ k → (l < m → k < s.seed (l + 1)) → is_first mask h w k ≡ false
  none_between l k q i j =
      ⊎_elim {C = is_first mask h w k ≡ false}
      (λ (f : is_first mask h w k ≡ true). (
      let z = first-label k f in
      ⊎_elim {C = is_first mask h w k ≡ false}
      (λ (a : l < lab k).
      let next = order-seeds (l + 1) (lab k) (omega arith) (omega arith) z.1 in
      absurd (omega (arith, j (omega (arith, z.1)), z.2)))
      (λ (a : lab k ≤ l). absurd (omega (arith, z.2, order-seeds (lab k) l z.0 a q, end_is l (omega (arith, z.0)))))
      (cases_lt l (lab k))))
      (λ (f : is_first mask h w k ≡ false). f)
      (cases_Bool (is_first mask h w k))

  end_low : (l : ℕ) → suc l ≤ m → end_of l ≤ s.seed (suc l)
  unfolding end_of
  end_low zero q = omega arith
  end_low (suc l) q = omega (arith, s.rises (suc l) (suc (suc l)) (omega arith) (omega arith) q)

  -- no first pixel before the next seed
  gap-count : (l : ℕ) → suc l ≤ m → count_below (s.seed (suc l)) (is_first mask h w) ≡ count_below (end_of l) (is_first mask h w)
  gap-count l q =
      count-gap (is_first mask h w) (end_of l) (s.seed (suc l)) (end_low l q)
      (λ k i j. none_between l k (omega arith) i (λ d. (let e : l + 1 ≡ suc l = add-one l in rw e j)))

  -- so the roots up to label l are as many as the first pixels up to its seed
  roots-upto : (l : ℕ) → l ≤ m → count_below (suc l) (is_root parents) ≡ count_below (end_of l) (is_first mask h w)
  unfolding end_of
  roots-upto zero q = omega (arith, count-few parents 1 (omega arith), nothing (is_first mask h w))
  roots-upto (suc l) q =
      let z = roots-upto l (omega arith) ∙ sym (gap-count l q) in
      let a = root_alike (suc l) (omega arith) q in
      rw (add-one (s.seed (suc l))) (one_each (is_root parents) (is_first mask h w) (suc l) (s.seed (suc l)) z a)

  pub roots-below : (l : ℕ) → 0 < l → l ≤ m → count_below l (is_root parents) ≡ count_below (s.seed l) (is_first mask h w)
  roots-below zero p q = absurd (not-suc-le-zero p)
  roots-below (suc l) p q = roots-upto l (omega arith) ∙ sym (gap-count l q)

  -- and all roots as many as the parts
  pub roots-all : count_below (m + 1) (is_root parents) ≡ parts mask h w
  unfolding parts end_of
  roots-all =
      rw (add-one m)
      (roots-upto m (omega arith)
      ∙ sym
      (count-gap (is_first mask h w) (end_of m) (h * w) (ends m (omega arith))
      (λ k i j. none_between m k (omega arith) i (λ d. absurd (omega arith)))))
    where
      ends : (l : ℕ) → l ≤ m → end_of l ≤ h * w
      ends zero q = omega arith
      ends (suc l) q = omega (arith, s.inside (suc l) (omega arith) q)

  -- the number of the root of a pixel's label is the pixel's label
  pub number_is : (k : ℕ) → is_on mask k ≡ true → 1 + count_below (s.rep (lab k)) (is_root parents) ≡ label_of mask h w k
  number_is k o =
      let z = s.on k (in-plane k o) o in
      let r = s.rep (lab k) in
      ap (λ (i : ℕ). 1 + i)
      (roots-below r (s.forest.some (lab k) z.0) (omega (arith, s.forest.low (lab k), z.1))
      ∙ ap (λ (i : ℕ). count_below i (is_first mask h w)) (root-seed k o))
      ∙ sym (label-on mask h w k o)

  -- numbers that are 0 off the mask, and else the number of the root of the pixel's label, are the labels
  labels-by : (out : List ℕ) → length out ≡ h * w → ((k : ℕ) → k < h * w → is_on mask k ≡ false → get_or out k 0 ≡ 0)
      → ((k : ℕ) → k < h * w → is_on mask k ≡ true → get_or out k 0 ≡ 1 + count_below (s.rep (get_or labels k 0)) (is_root parents))
      → out ≡ labels_plane mask h w
  unfolding labels_plane label_at
  labels-by out long zeros ones =
      plane-is h w (label_at mask h w) out 0 long
      (λ y x a b. (
      let k = y * w + x in
      let i = pixel-in y x h w a b in
      ⊎_elim {C = get_or out k 0 ≡ label_of mask h w k}
      (λ (o : is_on mask k ≡ true). ones k i o ∙ number_is k o)
      (λ (o : is_on mask k ≡ false). zeros k i o ∙ sym (label-off mask h w k o))
      (cases_Bool (is_on mask k))))

  -- so the plane of the labels' numbers is,
  pub numbers-are : {new out : List ℕ} {n : ℕ} → Numbered parents new m (m + 1) n → length labels ≡ h * w
      → length out ≡ length labels → ((k : ℕ) → k < length out → get_or out k 0 ≡ get_or new (get_or labels k 0) 0)
      → out ≡ labels_plane mask h w
  numbers-are {new} {out} g long same each =
      let at : (k : ℕ) → k < h * w → get_or out k 0 ≡ get_or new (get_or labels k 0) 0 = λ k i. each k (omega arith) in
      labels-by out (same ∙ long)
      (λ k i o. at k i ∙ ap (λ (j : ℕ). get_or new j 0) (s.off k i o) ∙ g.zero)
      (λ k i o. (let z = s.on k i o in at k i ∙ g.done s.rep s.forest (get_or labels k 0) z.0 (omega (arith, z.1))))

  -- and so are the provisional labels where every label is a root
  pub labels-stay : {new : List ℕ} {n : ℕ} → Numbered parents new m (m + 1) n → n ≡ m → length labels ≡ h * w
      → labels ≡ labels_plane mask h w
  labels-stay g e long =
      labels-by labels long s.off
      (λ k i o. (let z = s.on k i o in sym (own-number (sym g.count ∙ e) (lab k) z.0 z.1)))
    where
      own-number : count_below (m + 1) (is_root parents) ≡ m → (l : ℕ) → 0 < l → l ≤ m
          → 1 + count_below (s.rep l) (is_root parents) ≡ l
      own-number e l p q =
          let a = count-few parents l p in
          let b = count-slow (is_root parents) l (m + 1) (omega arith) in
          let c = count-slow (is_root parents) (suc l) (m + 1) (omega arith) in
          ⊎_elim {C = 1 + count_below (s.rep l) (is_root parents) ≡ l}
          (λ (t : is_root parents l ≡ true). rw (s.forest.top l q (root-at parents l t).1) (omega arith))
          (λ (t : is_root parents l ≡ false). absurd (omega (arith, count-no-more (is_root parents) l t)))
          (cases_Bool (is_root parents l))
