-- One pixel more of the first pass.
-- Assumes nothing.
use mathlib.Core.Path.{◌≡◌, refl, sym, ap, ◌∙◌}
use mathlib.Core.Bool.{true, false, cond}
use mathlib.Core.Logic.{◌⊎◌, inl, inr, ⊎_elim}
use mathlib.Core.List.{List}
use Prim.Native.Nat.{ℕ, ◌+◌, ◌*◌, ◌-◌, ◌%◌, ◌≤◌, ◌<◌, max}
use native.Mathlib.Nat.{ne_of_lt, mod-eq-sub-mod, mod-le, not-suc-le-zero}
use native.Mathlib.Omega.{arith}
use lib.Dec.{eqb, ltb}
use lib.ListN.{length, get_or, set, length-set}
use lib.Seq.{get_or-set_same, get_or-set_other}
use borrow.Author.Tests.{eqb-false, eq-eqb, ne_eqb, ltb-false, lt-ltb, le-ltb}
use Rattle.plane.specs.Plane.{on}
use Rattle.plane.specs.declared.size.Mask.{Mask}
use Rattle.plane.proofs.Plane.{pixel-in}
use Rattle.plane.proofs.Search.{not-both}
use Rattle.std.proofs.lemmas.Bool.{cases_Bool, cases_lt}
use Rattle.plane.specs.Mask.{is_on}
use Rattle.labels.specs.Labels.{beside, Joined, same, onward, renamed, is_first}
use Rattle.plane.specs.Box.{lesser_of}
use Rattle.labels.specs.steps.Trees.{Forest, Linked, Placeable, Placed, dark, fresh, from-above, from-left, from-both}
use Rattle.labels.specs.steps.Trees.{up_at, left_at, diag_at, Scanned, Given}
use Rattle.labels.proofs.Joined.{beside_back, joined-trans, joined-sym}
use Rattle.labels.proofs.Firsts.{first-least, first_same, first_on, renamed-left, renamed-right, Cases, renamed-cases}
use Rattle.labels.proofs.Firsts.{lesser-cases}
use Rattle.labels.proofs.Steps.{column-is, beside-above, beside-left, Sides4, beside-sides}
use Rattle.labels.proofs.Forests.{added, renamed-lesser}
use Rattle.std.proofs.Math.Nat.{pos_of_ne-zero, max-eq_left}
use Rattle.plane.proofs.Bounds.{lesser-min}

-- a pixel is on where its byte is not 0
byte-on : (mask : List ℕ) (k : ℕ) → (get_or mask k 0 ≡ 0 → ⊥) → is_on mask k ≡ true
unfolding is_on on
byte-on mask k n = rw (ne_eqb (get_or mask k 0) 0 n)

byte-off : (mask : List ℕ) (k : ℕ) → get_or mask k 0 ≡ 0 → is_on mask k ≡ false
unfolding is_on on
byte-off mask k e = rw (eq-eqb (get_or mask k 0) 0 e)

-- where the labels of the neighbours come from
up_is : (labels : List ℕ) (w t : ℕ) → w ≤ t → up_at labels w t ≡ get_or labels (t - w) 0
unfolding up_at
up_is labels w t l = rw (le-ltb t w l)

up-some : (labels : List ℕ) (w t : ℕ) → 0 < up_at labels w t → w ≤ t
unfolding up_at
up-some labels w t l =
    ⊎_elim {C = w ≤ t}
    (λ (e : ltb t w ≡ true). (let z : 0 < cond (ltb t w) 0 (get_or labels (t - w) 0) = l in absurd (not-suc-le-zero (rw e at z))))
    (λ (e : ltb t w ≡ false). ltb-false t w e)
    (cases_Bool (ltb t w))

left_is : (labels : List ℕ) (t x : ℕ) → 0 < x → left_at labels t x ≡ get_or labels (t - 1) 0
unfolding left_at
left_is labels t x l = rw (ne_eqb x 0 (λ z. omega arith))

left-some : (labels : List ℕ) (t x : ℕ) → 0 < left_at labels t x → 0 < x
unfolding left_at
left-some labels t x l =
    ⊎_elim {C = 0 < x}
    (λ (e : eqb x 0 ≡ true). (let z : 0 < cond (eqb x 0) 0 (get_or labels (t - 1) 0) = l in absurd (not-suc-le-zero (rw e at z))))
    (λ (e : eqb x 0 ≡ false). pos_of_ne-zero (eqb-false x 0 e))
    (cases_Bool (eqb x 0))

diag-is : (labels : List ℕ) (w t x : ℕ) → 0 < x → diag_at labels w t x ≡ up_at labels w (t - 1)
unfolding diag_at
diag-is labels w t x l = rw (ne_eqb x 0 (λ z. omega arith))

module _ (mask : List ℕ) (h w : ℕ) (fits : length mask ≡ h * w) (wide : 0 < w) (labels : List ℕ) (t : ℕ) (inside : t < length labels) where
  abbrev lab : ℕ → ℕ
  lab k = get_or labels k 0

  -- the labels of the neighbours to the left, above, and above to the left
  abbrev left : ℕ
  left = left_at labels t (t % w)

  abbrev up : ℕ
  up = up_at labels w t

  abbrev diag : ℕ
  diag = diag_at labels w t (t % w)

  -- what the label r of pixel t asks
  record Fits (m r : ℕ) (rep seed : ℕ → ℕ) : Type 0 where
    off : is_on mask t ≡ false → r ≡ 0
    on : is_on mask t ≡ true → (0 < r) × (r ≤ m)
    joined : is_on mask t ≡ true → Joined mask w (seed (rep r)) t
    above : is_on mask t ≡ true → w ≤ t → is_on mask (t - w) ≡ true → rep r ≡ rep (lab (t - w))
    beside_it : is_on mask t ≡ true → 0 < t % w → is_on mask (t - 1) ≡ true → rep r ≡ rep (lab (t - 1))
    starts : is_first mask h w t ≡ true → seed r ≡ t

  -- what one pixel more asks: the trees, the pixels before t, and the label r of pixel t
  record Grows (new : List ℕ) (m r : ℕ) (rep seed : ℕ → ℕ) : Type 0 where
    forest : Forest new m rep
    few : m ≤ t + 1
    old_off : (k : ℕ) → k < t → is_on mask k ≡ false → lab k ≡ 0
    old_on : (k : ℕ) → k < t → is_on mask k ≡ true → (0 < lab k) × (lab k ≤ m)
    old_joined : (k : ℕ) → k < t → is_on mask k ≡ true → Joined mask w (seed (rep (lab k))) k
    old_alike : (j k : ℕ) → j < t → k < t → is_on mask j ≡ true → is_on mask k ≡ true → beside w j k ≡ true → rep (lab j) ≡ rep (lab k)
    old_starts : (k : ℕ) → k < t → is_first mask h w k ≡ true → seed (lab k) ≡ k
    rises : (a b : ℕ) → 0 < a → a < b → b ≤ m → seed a < seed b
    inside' : (l : ℕ) → 0 < l → l ≤ m → seed l < t + 1
    own : (l : ℕ) → 0 < l → l ≤ m → (is_on mask (seed l) ≡ true) × (get_or (set labels t r) (seed l) 0 ≡ l)
    pixel : Fits m r rep seed

  module _ {new : List ℕ} {m r : ℕ} {rep seed : ℕ → ℕ} (g : Grows new m r rep seed) where
    -- the labels with that of pixel t
    abbrev lab' : ℕ → ℕ
    lab' k = get_or (set labels t r) k 0

    at_old : (k : ℕ) → k < t → lab' k ≡ lab k
    at_old k l = get_or-set_other labels t k r 0 (ne_of_lt l)

    at_new : lab' t ≡ r
    at_new = get_or-set_same labels t r 0 inside

    -- what holds of the pixels before t and of t
    both : (P : ℕ → Type 0) → ((k : ℕ) → k < t → P k) → P t → (k : ℕ) → k < t + 1 → P k
    both P a b k l =
        ⊎_elim {C = P k} (λ (z : k < t). a k z) (λ (z : t ≤ k). (let q : t ≡ k = omega arith in rw q at b)) (cases_lt k t)

    beside-new : (k : ℕ) → k < t → is_on mask t ≡ true → is_on mask k ≡ true → beside w t k ≡ true → rep r ≡ rep (lab k)
    beside-new k l e o b = go (beside-sides w wide t k b)
      where
        go : Sides4 w wide t k → rep r ≡ rep (lab k)
        go (inl z) = rw z.1 (g.pixel.above e z.0 (rw z.1 at o))
        go (inr (inl z)) = absurd (omega arith)
        go (inr (inr (inl z))) = rw z.1 (g.pixel.beside_it e z.0 (rw z.1 at o))
        go (inr (inr (inr z))) = absurd (omega (arith, z.1))

    -- pixels beside each other have one root
    abbrev Alike : ℕ → ℕ → Type 0
    Alike j k = is_on mask j ≡ true → is_on mask k ≡ true → beside w j k ≡ true → rep (lab' j) ≡ rep (lab' k)

    alike : (j k : ℕ) → j < t + 1 → k < t + 1 → Alike j k
    alike j k a b =
        both (λ (i : ℕ). Alike i k)
        (λ i l.
        both (Alike i) (λ u v e o d. ap rep (at_old i l) ∙ g.old_alike i u l v e o d ∙ ap rep (sym (at_old u v)))
        (λ e o d. ap rep (at_old i l) ∙ sym (beside-new i l o e (beside_back w t i ∙ d)) ∙ ap rep (sym at_new)) k b)
        (both (Alike t) (λ u v e o d. ap rep at_new ∙ beside-new u v e o d ∙ ap rep (sym (at_old u v))) (λ e o d. refl) k b)
        j a

    grown : Scanned mask (set labels t r) new h w (t + 1) m
    grown = record {
      rep = rep;
      seed = seed;
      forest = g.forest;
      few = g.few;
      off = both (λ (k : ℕ). is_on mask k ≡ false → lab' k ≡ 0) (λ k l e. at_old k l ∙ g.old_off k l e) (λ e. at_new ∙ g.pixel.off e);
      on =
          both (λ (k : ℕ). is_on mask k ≡ true → (0 < lab' k) × (lab' k ≤ m))
          (λ k l e. rw (at_old k l) (g.old_on k l e)) (λ e. rw at_new (g.pixel.on e));
      joined =
          both (λ (k : ℕ). is_on mask k ≡ true → Joined mask w (seed (rep (lab' k))) k)
          (λ k l e. rw (at_old k l) (g.old_joined k l e)) (λ e. rw at_new (g.pixel.joined e));
      alike = alike;
      rises = g.rises;
      inside = g.inside';
      own = g.own;
      starts =
          both (λ (k : ℕ). is_first mask h w k ≡ true → seed (lab' k) ≡ k)
          (λ k l e. ap seed (at_old k l) ∙ g.old_starts k l e) (λ e. ap seed at_new ∙ g.pixel.starts e);
    }

  module _ (parents : List ℕ) (m : ℕ) (s : Scanned mask labels parents h w t m) where
    -- a pixel with a label is on
    has_on : (k : ℕ) → k < t → 0 < lab k → is_on mask k ≡ true
    has_on k l p =
        ⊎_elim {C = is_on mask k ≡ true} (λ e. e) (λ e. absurd (omega (arith, s.off k l e))) (cases_Bool (is_on mask k))

    -- the pixel above, and the one to the left, where they have labels
    up-on : 0 < up → (w ≤ t) × (is_on mask (t - w) ≡ true) × (beside w t (t - w) ≡ true)
    up-on p =
        let l = up-some labels w t p in
        (l, has_on (t - w) (omega arith) (omega (arith, up_is labels w t l)), beside-above w wide t l)

    left-on : 0 < left → (0 < t % w) × (is_on mask (t - 1) ≡ true) × (beside w t (t - 1) ≡ true)
    left-on p =
        let l = left-some labels t (t % w) p in
        let q = mod-le t w in
        (l, has_on (t - 1) (omega arith) (omega (arith, left_is labels t (t % w) l)), beside-left w wide t l)

    -- a pixel that has an on-neighbour before it is not its part's first
    not_first : {C : Type 0} (k : ℕ) → k < t → is_on mask t ≡ true → is_on mask k ≡ true → beside w t k ≡ true → is_first mask h w t ≡ true → C
    not_first k l e o b f =
        let z = first_on mask h w fits t f in
        absurd (omega (arith, z.1, first_same mask h w fits (onward (same e) b o), first-least mask h w fits k o))

    own-kept : (r l : ℕ) → 0 < l → l ≤ m → (is_on mask (s.seed l) ≡ true) × (get_or (set labels t r) (s.seed l) 0 ≡ l)
    own-kept r l a b =
        let z = s.own l a b in
        (z.0, get_or-set_other labels t (s.seed l) r 0 (ne_of_lt (s.inside l a b)) ∙ z.1)

    -- where the trees stay as they are
    keep : {r : ℕ} → Fits m r s.rep s.seed → Scanned mask (set labels t r) parents h w (t + 1) m
    keep {r} f = grown record {
      forest = s.forest;
      few = omega (arith, s.few);
      old_off = s.off;
      old_on = s.on;
      old_joined = s.joined;
      old_alike = s.alike;
      old_starts = s.starts;
      rises = s.rises;
      inside' = λ l p q. omega (arith, s.inside l p q);
      own = own-kept r;
      pixel = f;
    }

    -- a pixel that is off
    put-off : is_on mask t ≡ false → Scanned mask (set labels t 0) parents h w (t + 1) m
    put-off o = keep record {
      off = λ e. refl;
      on = λ e. not-both (is_on mask t) e o;
      joined = λ e. not-both (is_on mask t) e o;
      above = λ e. not-both (is_on mask t) e o;
      beside_it = λ e. not-both (is_on mask t) e o;
      starts = λ f. not-both (is_on mask t) (first_on mask h w fits t f).0 o;
    }

    -- no label to the left, or above: the pixel there is off, or there is none
    no-left : {C : Type 0} → left ≡ 0 → 0 < t % w → is_on mask (t - 1) ≡ true → C
    no-left z l o =
        let q = mod-le t w in
        absurd (omega (arith, left_is labels t (t % w) l, (s.on (t - 1) (omega arith) o).0))

    no-up : {C : Type 0} → up ≡ 0 → w ≤ t → is_on mask (t - w) ≡ true → C
    no-up z l o = absurd (omega (arith, up_is labels w t l, (s.on (t - w) (omega arith) o).0))

    -- the label of a neighbour k
    put-from : (k : ℕ) → is_on mask t ≡ true → k < t → is_on mask k ≡ true → beside w t k ≡ true
        → (w ≤ t → is_on mask (t - w) ≡ true → s.rep (lab k) ≡ s.rep (lab (t - w)))
        → (0 < t % w → is_on mask (t - 1) ≡ true → s.rep (lab k) ≡ s.rep (lab (t - 1)))
        → Scanned mask (set labels t (lab k)) parents h w (t + 1) m
    put-from k o i a b c d = keep record {
      off = λ e. not-both (is_on mask t) o e;
      on = λ e. s.on k i a;
      joined = λ e. onward (s.joined k i a) (beside_back w k t ∙ b) o;
      above = λ e. c;
      beside_it = λ e. d;
      starts = λ f. not_first k i o a b f;
    }

    put_up : is_on mask t ≡ true → left ≡ 0 → 0 < up → Scanned mask (set labels t up) parents h w (t + 1) m
    put_up o z p =
        let u = up-on p in
        rw (up_is labels w t u.0)
        (put-from (t - w) o (omega (arith, u.0)) u.1 u.2 (λ l g. refl) (λ l g. no-left z l g))

    -- the label of the pixel to the left, whose root the pixel above has too, if it is on
    put-left : is_on mask t ≡ true → 0 < left → (up ≡ 0) ⊎ (0 < diag) → Scanned mask (set labels t left) parents h w (t + 1) m
    put-left o p d =
        let u = left-on p in
        let low = mod-le t w in
        rw (left_is labels t (t % w) u.0)
        (put-from (t - 1) o (omega (arith, u.0)) u.1 u.2
        (λ l g. ⊎_elim {C = s.rep (lab (t - 1)) ≡ s.rep (lab (t - w))} (λ z. no-up z l g) (λ z. around u.0 u.1 l g z) d)
        (λ l g. refl))
      where
        -- by way of the pixel above to the left
        around : 0 < t % w → is_on mask (t - 1) ≡ true → w ≤ t → is_on mask (t - w) ≡ true → 0 < diag
            → s.rep (lab (t - 1)) ≡ s.rep (lab (t - w))
        around x a l b z =
            let p : 0 < up_at labels w (t - 1) = rw (diag-is labels w t (t % w) x) at z in
            let k = up-some labels w (t - 1) p in
            let c = (t - 1) - w in
            let e : (t - w) - 1 ≡ c = omega arith in
            let g : is_on mask c ≡ true = has_on c (omega arith) (omega (arith, up_is labels w (t - 1) k)) in
            let y : 0 < (t - w) % w = rw (mod-eq-sub-mod {n = t} {m = w} l) at x in
            let v : beside w (t - w) ((t - w) - 1) ≡ true = beside-left w wide (t - w) y in
            s.alike (t - 1) c (omega arith) (omega arith) a g (beside-above w wide (t - 1) k)
            ∙ sym (s.alike (t - w) c (omega arith) (omega arith) b g (rw e at v))

    -- a new label
    module _ (o : is_on mask t ≡ true) (z : left ≡ 0) (y : up ≡ 0) (room : m + 1 < length parents) where
      abbrev seed' : ℕ → ℕ
      seed' l = cond (eqb l (m + 1)) t (s.seed l)

      seed-old : (l : ℕ) → l ≤ m → seed' l ≡ s.seed l
      seed-old l i = rw (ne_eqb l (m + 1) (λ q. omega arith))

      seed-new : seed' (m + 1) ≡ t
      seed-new = rw (eq-eqb (m + 1) (m + 1) refl)

      -- a label up to m, or the new one
      by-label : (P : ℕ → Type 0) → ((l : ℕ) → 0 < l → l ≤ m → P l) → P (m + 1) → (l : ℕ) → 0 < l → l ≤ m + 1 → P l
      by-label P a b l i j =
          ⊎_elim {C = P l} (λ (e : m < l). (let q : m + 1 ≡ l = omega arith in rw q at b)) (λ (e : l ≤ m). a l i e) (cases_lt m l)

      put-new : Scanned mask (set labels t (m + 1)) (set parents (m + 1) (m + 1)) h w (t + 1) (m + 1)
      put-new = grown {rep = s.rep} {seed = seed'} record {
        forest = added s.forest room;
        few = omega (arith, s.few);
        old_off = s.off;
        old_on = λ k l e. (let v = s.on k l e in (v.0, omega (arith, v.1)));
        old_joined = λ k l e. rw (seed-old (s.rep (lab k)) (omega (arith, s.forest.low (lab k), (s.on k l e).1))) (s.joined k l e);
        old_alike = s.alike;
        old_starts = λ k l f. seed-old (lab k) (s.on k l (first_on mask h w fits k f).0).1 ∙ s.starts k l f;
        rises =
            λ a b i j k.
            by-label (λ (c : ℕ). a < c → seed' a < seed' c)
            (λ c p q d. rw (seed-old a (omega arith), seed-old c q) (s.rises a c i d q))
            (λ d. rw (seed-new, seed-old a (omega arith)) (s.inside a i (omega arith))) b (omega arith) k j;
        inside' =
            by-label (λ (l : ℕ). seed' l < t + 1) (λ l p q. rw (seed-old l q) (omega (arith, s.inside l p q))) (rw seed-new (omega arith));
        own =
            by-label (λ (l : ℕ). (is_on mask (seed' l) ≡ true) × (get_or (set labels t (m + 1)) (seed' l) 0 ≡ l))
            (λ l p q. rw (seed-old l q) (own-kept (m + 1) l p q))
            (rw seed-new (o, get_or-set_same labels t (m + 1) 0 inside));
        pixel = record {
          off = λ e. not-both (is_on mask t) o e;
          on = λ e. (omega arith, omega arith);
          joined = λ e. rw (s.forest.beyond (m + 1) (omega arith), seed-new) (same o);
          above = λ e l g. no-up y l g;
          beside_it = λ e l g. no-left z l g;
          starts = λ f. seed-new;
        };
      }

    -- two labels that meet
    module _ (o : is_on mask t ≡ true) (p : 0 < left) (q : 0 < up) (new : List ℕ) (r : ℕ) (k : Linked parents new m left up r) where
      abbrev u : ℕ
      u = s.rep left

      abbrev v : ℕ
      v = s.rep up

      abbrev rep' : ℕ → ℕ
      rep' l = renamed u v (s.rep l)

      l-in : t - 1 < t
      l-in = let a = left-on p in let b = mod-le t w in omega (arith, a.0)

      left-lab : lab (t - 1) ≡ left
      left-lab = sym (left_is labels t (t % w) (left-on p).0)

      up-lab : lab (t - w) ≡ up
      up-lab = sym (up_is labels w t (up-on q).0)

      -- the seeds of both roots are joined to t
      from-u : Joined mask w (s.seed u) t
      from-u = let a = left-on p in onward (rw left-lab at (s.joined (t - 1) l-in a.1)) (beside_back w (t - 1) t ∙ a.2) o

      from-v : Joined mask w (s.seed v) t
      from-v =
          let a = up-on q in
          onward (rw up-lab at (s.joined (t - w) (omega (arith, a.0)) a.1)) (beside_back w (t - w) t ∙ a.2) o

      r-is : r ≡ lesser_of u v
      r-is = k.root s.rep s.forest

      -- the lesser_of of the two roots is a root, has a seed that is joined to t, and is a label
      record Least (n : ℕ) : Type 0 where
        from : Joined mask w (s.seed n) t
        root : s.rep n ≡ n
        some : 0 < n

      least : Least (lesser_of u v)
      least =
          ⊎_elim {C = Least (lesser_of u v)}
          (λ e. rw e.0 (record { from = from-u; root = s.forest.again left; some = s.forest.some left p }))
          (λ e. rw e.0 (record { from = from-v; root = s.forest.again up; some = s.forest.some up q }))
          (lesser-cases u v)

      new-root : rep' r ≡ lesser_of u v
      new-root = ap rep' r-is ∙ ap (renamed u v) least.root ∙ renamed-lesser u v

      r-low : r ≤ m
      r-low =
          omega (arith, r-is, lesser-min u v, s.forest.low left, (s.on (t - 1) l-in (left-on p).1).1, left-lab)

      still-joined : (i : ℕ) → Joined mask w (s.seed (s.rep (lab i))) i → Cases u v (s.rep (lab i))
          → Joined mask w (s.seed (rep' (lab i))) i
      still-joined i j (inl (inl e, a)) = rw a (joined-trans least.from (joined-trans (joined-sym from-u) (rw e at j)))
      still-joined i j (inl (inr e, a)) = rw a (joined-trans least.from (joined-trans (joined-sym from-v) (rw e at j)))
      still-joined i j (inr a) = rw a j

      put_both : Scanned mask (set labels t r) new h w (t + 1) m
      put_both = grown {rep = rep'} {seed = s.seed} record {
        forest = k.trees s.rep s.forest;
        few = omega (arith, s.few);
        old_off = s.off;
        old_on = s.on;
        old_joined = λ i l e. still-joined i (s.joined i l e) (renamed-cases u v (s.rep (lab i)));
        old_alike = λ i j a b c d e. ap (renamed u v) (s.alike i j a b c d e);
        old_starts = s.starts;
        rises = s.rises;
        inside' = λ l a b. omega (arith, s.inside l a b);
        own = own-kept r;
        pixel = record {
          off = λ e. not-both (is_on mask t) o e;
          on = λ e. (omega (arith, r-is, least.some), r-low);
          joined = λ e. rw new-root least.from;
          above = λ e a b. new-root ∙ sym (ap rep' up-lab ∙ renamed-right u v);
          beside_it = λ e a b. new-root ∙ sym (ap rep' left-lab ∙ renamed-left u v);
          starts = λ f. not_first (t - 1) l-in o (left-on p).1 (left-on p).2 f;
        };
      }

    max-new : max m (m + 1) ≡ m + 1
    max-new = omega arith

    label-low : (k : ℕ) → k < t → lab k ≤ m
    label-low k l =
        ⊎_elim {C = lab k ≤ m} (λ e. (s.on k l e).1) (λ e. omega (arith, s.off k l e)) (cases_Bool (is_on mask k))

    pub left-low : left ≤ m
    left-low =
        let q = mod-le t w in
        ⊎_elim {C = left ≤ m}
        (λ (p : 0 < left). (let l = (left-on p).0 in omega (arith, left_is labels t (t % w) l, label-low (t - 1) (omega arith))))
        (λ (p : left ≤ 0). omega arith)
        (cases_lt 0 left)

    pub up-low : up ≤ m
    up-low =
        ⊎_elim {C = up ≤ m}
        (λ (p : 0 < up). (let l = (up-on p).0 in omega (arith, up_is labels w t l, label-low (t - w) (omega arith))))
        (λ (p : up ≤ 0). omega arith)
        (cases_lt 0 up)

    -- one pixel more
    pub step : (new : List ℕ) (r : ℕ) → m + 1 < length parents → Placed (get_or mask t 0) left up diag m parents new r
        → Scanned mask (set labels t r) new h w (t + 1) (max m r)
    step new r room (dark a b c) = rw (b, c, max-eq_left {n = m} {m = 0} (omega arith)) (put-off (byte-off mask t a))
    step new r room (fresh a b c d e) = rw (d, e, max-new) (put-new (byte-on mask t a) b c room)
    step new r room (from-above a b c d e) = rw (d, e, max-eq_left up-low) (put_up (byte-on mask t a) b c)
    step new r room (from-left a b c d e) = rw (d, e, max-eq_left left-low) (put-left (byte-on mask t a) b c)
    step new r room (from-both a b c d) =
        let o = byte-on mask t a in
        rw (max-eq_left (r-low o b c new r d)) (put_both o b c new r d)

-- what is given stays given while the buffers keep their lengths
pub still-given : {parents labels parents' labels' : List ℕ} {n : ℕ} → Given parents labels n → length parents' ≡ length parents
    → length labels' ≡ length labels → Given parents' labels' n
still-given g p l = record { few = g.few; output = l ∙ g.output; room = omega (arith, g.room, p) }

-- ---- along a row

module _ (a : Mask) {parents labels : List ℕ} (g : Given parents labels (a.size.h * a.size.w)) (y x m : ℕ) (row : y < a.size.h)
    (column : x < a.size.w) (s : Scanned a.pixels.now labels parents a.size.h a.size.w (y * a.size.w + x) m) where
  abbrev mask : List ℕ
  mask = a.pixels.now

  abbrev h : ℕ
  h = a.size.h

  abbrev w : ℕ
  w = a.size.w

  abbrev pixel : ℕ
  pixel = y * w + x

  some : 1 ≤ w
  some = a.size.sides.some_columns

  pub pixel-inside : pixel < h * w
  pixel-inside = pixel-in y x h w row column

  column-of : pixel % w ≡ x
  column-of = column-is y x w column

  in-labels : pixel < length labels
  in-labels = omega (arith, g.output, pixel-inside)

  -- the labels of the neighbours are labels, and there is room for a new one
  pub placeable : {left up : ℕ} → left ≡ left_at labels pixel x → up ≡ up_at labels w pixel → Placeable parents m left up
  placeable l u = record {
    trees = record { rep = s.rep; forest = s.forest };
    left_in = rw l (rw column-of at (left-low mask h w a.whole some labels pixel in-labels parents m s));
    up_in = rw u (up-low mask h w a.whole some labels pixel in-labels parents m s);
    room = omega (arith, s.few, pixel-inside, g.room);
    small = omega (arith, s.few, pixel-inside, g.few);
  }

  module _ (r : ℕ) where
    abbrev after : List ℕ
    after = set labels pixel r

    abbrev next : ℕ
    next = y * w + (x + 1)

    back : next - 1 ≡ pixel
    back = omega arith

    -- the row above is not touched
    up_same : up_at after w pixel ≡ up_at labels w pixel
    unfolding up_at
    up_same =
        ⊎_elim {C = up_at after w pixel ≡ up_at labels w pixel}
        (λ (l : pixel < w). rw (lt-ltb pixel w l))
        (λ (l : w ≤ pixel).
        rw (le-ltb pixel w l) (get_or-set_other labels pixel (pixel - w) r 0 (λ q. omega (arith, some))))
        (cases_lt pixel w)

    -- one pixel more, and the labels to the left, and above to the left, of the next
    pub row_next : {new : List ℕ} {left up diag : ℕ} → left ≡ left_at labels pixel x → up ≡ up_at labels w pixel
        → diag ≡ diag_at labels w pixel x → Placed (get_or mask pixel 0) left up diag m parents new r
        → Scanned mask after new h w next (max m r) × (r ≡ left_at after next (x + 1)) × (up ≡ diag_at after w next (x + 1))
    row_next {new} l u d p =
        let e : next ≡ pixel + 1 = omega arith in
        let room = (placeable l u).room in
        let one_more = step mask h w a.whole some labels pixel in-labels parents m s new r room in (
          rw e (one_more (rw column-of (rw (l, u, d) at p))),
          sym (left_is after next (x + 1) (omega arith) ∙ ap (λ (k : ℕ). get_or after k 0) back ∙ get_or-set_same labels pixel r 0 in-labels),
          u ∙ sym (diag-is after w next (x + 1) (omega arith) ∙ ap (up_at after w) back ∙ up_same),
        )

-- before the first pixel
pub none-scanned : (mask labels parents : List ℕ) (h w : ℕ) → 0 < length parents → Scanned mask labels (set parents 0 0) h w 0 0
none-scanned mask labels parents h w room = record {
  rep = λ l. l;
  seed = λ l. l;
  forest = record {
    room = omega (arith, length-set parents 0 0);
    down = λ l i. rw (root l i) (omega arith);
    along = λ l i. root l i;
    top = λ l i e. refl;
    low = λ l. omega arith;
    some = λ l p. p;
    again = λ l. refl;
    beyond = λ l i. refl;
  };
  few = omega arith;
  off = λ k l. absurd (not-suc-le-zero l);
  on = λ k l. absurd (not-suc-le-zero l);
  joined = λ k l. absurd (not-suc-le-zero l);
  alike = λ j k l. absurd (not-suc-le-zero l);
  rises = λ a b i j k. absurd (omega arith);
  inside = λ l i j. absurd (omega arith);
  own = λ l i j. absurd (omega arith);
  starts = λ k l. absurd (not-suc-le-zero l);
}
  where
    root : (l : ℕ) → l ≤ 0 → get_or (set parents 0 0) l 0 ≡ l
    root l i = let q : l ≡ 0 = omega arith in rw q (get_or-set_same parents 0 0 0 room)
