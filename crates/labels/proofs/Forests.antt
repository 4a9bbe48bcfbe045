-- Trees of labels: what halving a path, joining two trees and a new label do to them.
-- Assumes nothing.
use mathlib.Core.Path.{◌≡◌, sym, ap, ◌∙◌}
use mathlib.Core.Bool.{true, false}
use mathlib.Core.Logic.{◌⊎◌, inl, inr, ⊎_elim}
use mathlib.Core.List.{List}
use Prim.Native.Nat.{ℕ, ◌+◌, ◌≤◌, ◌<◌, min, max}
use native.Mathlib.Omega.{arith}
use lib.Dec.{eqb}
use lib.ListN.{length, get_or, set, length-set}
use lib.Seq.{get_or-set_same, get_or-set_other}
use borrow.Author.Tests.{eqb-true, eqb-false}
use Rattle.std.proofs.Math.Arith.{lt_of_le-ne}
use Rattle.std.proofs.lemmas.Bool.{cases_Bool, cases_lt}
use Rattle.labels.specs.Labels.{renamed}
use Rattle.plane.specs.Box.{lesser_of}
use Rattle.labels.specs.steps.Trees.{Forest, Found, Joinable, Linked}
use Rattle.labels.proofs.Firsts.{renamed-left, renamed-right, Cases, renamed-cases, lesser-cases}
use Rattle.plane.proofs.Bounds.{lesser-min}

-- an element after a store at i
abbrev pub Stored : List ℕ → ℕ → ℕ → ℕ → Type 0
Stored l i v k = ((k ≡ i) × (get_or (set l i v) k 0 ≡ v)) ⊎ ((k ≡ i → ⊥) × (get_or (set l i v) k 0 ≡ get_or l k 0))

pub set_cases : (l : List ℕ) (i v : ℕ) → i < length l → (k : ℕ) → Stored l i v k
set_cases l i v h k =
    ⊎_elim {C = Stored l i v k}
    (λ (e : eqb k i ≡ true). (let q = eqb-true k i e in inl (q, rw q (get_or-set_same l i v 0 h))))
    (λ (e : eqb k i ≡ false). (let q = eqb-false k i e in inr (q, get_or-set_other l i k v 0 q)))
    (cases_Bool (eqb k i))

-- what is renamed to: the lesser keeps its number
pub renamed-lesser : (a b : ℕ) → renamed a b (lesser_of a b) ≡ lesser_of a b
renamed-lesser a b =
    ⊎_elim {C = renamed a b (lesser_of a b) ≡ lesser_of a b}
    (λ z. ap (renamed a b) z.0 ∙ renamed-left a b)
    (λ z. ap (renamed a b) z.0 ∙ renamed-right a b)
    (lesser-cases a b)

pub renamed_low : (a b n : ℕ) → renamed a b n ≤ n
renamed_low a b n = go (renamed-cases a b n)
  where
    go : Cases a b n → renamed a b n ≤ n
    go (inl (inl q, e)) = omega (arith, lesser-min a b)
    go (inl (inr q, e)) = omega (arith, lesser-min a b)
    go (inr e) = omega arith

module _ {parents : List ℕ} {m : ℕ} {rep : ℕ → ℕ} (f : Forest parents m rep) where
  pub parent-most : (l : ℕ) → l ≤ m → get_or parents l 0 ≤ m
  parent-most l h = omega (arith, f.down l h)

  -- and the parent's parent of a label that is no root is below it
  pub grandparent : (a : ℕ) → a ≤ m → (get_or parents a 0 ≡ a → ⊥) → get_or parents (get_or parents a 0) 0 < a
  grandparent a h n =
      omega (arith, lt_of_le-ne (f.down a h) n, f.down (get_or parents a 0) (parent-most a h))

  -- a label's parent becomes its parent's parent
  module _ (a : ℕ) (h : a ≤ m) where
    abbrev over : ℕ
    over = get_or parents (get_or parents a 0) 0

    over-low : over ≤ get_or parents a 0
    over-low = f.down (get_or parents a 0) (parent-most a h)

    cases-at : (l : ℕ) → Stored parents a over l
    cases-at = set_cases parents a over (omega (arith, f.room))

    pub halved : Forest (set parents a over) m rep
    halved = record {
      room = omega (arith, f.room, length-set parents a over);
      down = λ l i.
          ⊎_elim {C = get_or (set parents a over) l 0 ≤ l}
          (λ z. omega (arith, z.0, z.1, f.down a h, over-low))
          (λ z. omega (arith, z.1, f.down l i))
          (cases-at l);
      along = λ l i.
          ⊎_elim {C = rep (get_or (set parents a over) l 0) ≡ rep l}
          (λ z. ap rep z.1 ∙ f.along (get_or parents a 0) (parent-most a h) ∙ f.along a h ∙ ap rep (sym z.0))
          (λ z. ap rep z.1 ∙ f.along l i)
          (cases-at l);
      top = λ l i e.
          ⊎_elim {C = rep l ≡ l}
          (λ z. ap rep z.0 ∙ f.top a h (omega (arith, z.0, z.1, f.down a h, over-low)) ∙ sym z.0)
          (λ z. f.top l i (sym z.1 ∙ e))
          (cases-at l);
      low = f.low;
      some = f.some;
      again = f.again;
      beyond = f.beyond;
    }

  -- a new label
  module _ (h : m + 1 < length parents) where
    abbrev more : List ℕ
    more = set parents (m + 1) (m + 1)

    least : {l : ℕ} → l ≤ m + 1 → (l ≡ m + 1 → ⊥) → l ≤ m
    least i n = omega (arith, lt_of_le-ne i n)

    cases-new : (l : ℕ) → Stored parents (m + 1) (m + 1) l
    cases-new = set_cases parents (m + 1) (m + 1) h

    pub added : Forest more (m + 1) rep
    added = record {
      room = omega (arith, length-set parents (m + 1) (m + 1));
      down = λ l i.
          ⊎_elim {C = get_or more l 0 ≤ l}
          (λ z. omega (arith, z.0, z.1))
          (λ z. omega (arith, z.1, f.down l (least i z.0)))
          (cases-new l);
      along = λ l i.
          ⊎_elim {C = rep (get_or more l 0) ≡ rep l}
          (λ z. ap rep (z.1 ∙ sym z.0))
          (λ z. ap rep z.1 ∙ f.along l (least i z.0))
          (cases-new l);
      top = λ l i e.
          ⊎_elim {C = rep l ≡ l}
          (λ z. f.beyond l (omega (arith, z.0)))
          (λ z. f.top l (least i z.0) (sym z.1 ∙ e))
          (cases-new l);
      low = f.low;
      some = f.some;
      again = f.again;
      beyond = λ l i. f.beyond l (omega arith);
    }

  -- the greater of two roots gets the lesser_of as its parent
  module _ (x y z : ℕ) (x-root : rep x ≡ x) (y-root : rep y ≡ y) (x-some : 0 < x) (y-some : 0 < y) (z-is : (z ≡ x) ⊎ (z ≡ y))
      (x-low : x ≤ z) (y-low : y ≤ z) (z-in : z ≤ m) where
    abbrev s : ℕ
    s = lesser_of x y

    abbrev new : List ℕ
    new = set parents z s

    abbrev to : ℕ → ℕ
    to l = renamed x y (rep l)

    s-root : rep s ≡ s
    s-root =
        ⊎_elim {C = rep s ≡ s} (λ e. ap rep e.0 ∙ x-root ∙ sym e.0) (λ e. ap rep e.0 ∙ y-root ∙ sym e.0) (lesser-cases x y)

    s-some : 0 < s
    s-some = ⊎_elim {C = 0 < s} (λ e. omega (arith, e.0)) (λ e. omega (arith, e.0)) (lesser-cases x y)

    to-s : to s ≡ s
    to-s = ap (renamed x y) s-root ∙ renamed-lesser x y

    to-z : to z ≡ s
    to-z =
        ⊎_elim {C = to z ≡ s}
        (λ e. ap to e ∙ ap (renamed x y) x-root ∙ renamed-left x y)
        (λ e. ap to e ∙ ap (renamed x y) y-root ∙ renamed-right x y)
        z-is

    cases : (l : ℕ) → Stored parents z s l
    cases = set_cases parents z s (omega (arith, f.room))

    -- a root other than z keeps its number
    keeps : (l : ℕ) → (l ≡ z → ⊥) → rep l ≡ l → to l ≡ l
    keeps l n e = ap (renamed x y) e ∙ go (renamed-cases x y l)
      where
        -- one of the two that is not z is the lesser_of
        least : (l ≡ x) ⊎ (l ≡ y) → s ≡ l
        least (inl q) = ⊎_elim {C = s ≡ l} (λ b. absurd (n (q ∙ sym b))) (λ b. omega (arith, lesser-min x y)) z-is
        least (inr q) = ⊎_elim {C = s ≡ l} (λ b. omega (arith, lesser-min x y)) (λ b. absurd (n (q ∙ sym b))) z-is

        go : Cases x y l → renamed x y l ≡ l
        go (inl u) = u.1 ∙ least u.0
        go (inr u) = u

    pub link : Forest new m to
    link = record {
      room = omega (arith, f.room, length-set parents z s);
      down = λ l i.
          ⊎_elim {C = get_or new l 0 ≤ l}
          (λ u. omega (arith, u.0, u.1, lesser-min x y))
          (λ u. omega (arith, u.1, f.down l i))
          (cases l);
      along = λ l i.
          ⊎_elim {C = to (get_or new l 0) ≡ to l}
          (λ u. ap to u.1 ∙ to-s ∙ sym to-z ∙ ap to (sym u.0))
          (λ u. ap to u.1 ∙ ap (renamed x y) (f.along l i))
          (cases l);
      top = λ l i e.
          ⊎_elim {C = to l ≡ l}
          (λ u. ap to u.0 ∙ to-z ∙ sym u.1 ∙ e)
          (λ u. keeps l u.0 (f.top l i (sym u.1 ∙ e)))
          (cases l);
      low = λ l. omega (arith, renamed_low x y (rep l), f.low l);
      some = λ l h.
          ⊎_elim {C = 0 < to l} (λ u. omega (arith, u.1, s-some)) (λ u. omega (arith, u, f.some l h)) (renamed-cases x y (rep l));
      again = λ l.
          ⊎_elim {C = to (to l) ≡ to l}
          (λ u. ap to u.1 ∙ to-s ∙ sym u.1)
          (λ u. ap to u ∙ ap (renamed x y) (f.again l))
          (renamed-cases x y (rep l));
      beyond = λ l h. keeps l (λ q. omega arith) (f.beyond l h);
    }

-- the roots of two labels found, and the greater given the lesser as its parent: the two trees are one
module _ {old one two : List ℕ} {m a b x y : ℕ} (g : Joinable old m a b) (p : Found old one m a x) (q : Found one two m b y) where
  module _ {rep : ℕ → ℕ} (f : Forest old m rep) where
    abbrev end : Forest two m rep
    end = q.same_trees rep (p.same_trees rep f)

    x-is : x ≡ rep a
    x-is = p.root rep f

    y-is : y ≡ rep b
    y-is = q.root rep (p.same_trees rep f)

    linked-at : (z : ℕ) → (z ≡ rep a) ⊎ (z ≡ rep b) → rep a ≤ z → rep b ≤ z → z ≤ m
        → Forest (set two z (lesser_of (rep a) (rep b))) m (λ (l : ℕ). renamed (rep a) (rep b) (rep l))
    linked-at z = link end (rep a) (rep b) z (f.again a) (f.again b) (f.some a g.a_some) (f.some b g.b_some)

  pub roots-in : (x ≤ m) × (y ≤ m) × (m < length two)
  roots-in =
      let f = g.trees.forest in
      (omega (arith, x-is f, f.low a, g.a_in), omega (arith, y-is f, f.low b, g.b_in), (end f).room)

  pub linked : {greater lesser : ℕ} → greater ≡ max x y → lesser ≡ min x y → Linked old (set two greater lesser) m a b lesser
  linked {greater} {lesser} g l = record {
    trees = λ rep f. (
        let i = x-is f in
        let j = y-is f in
        rw (lesser-is f) (linked-at f greater (greater-is f) (omega arith) (omega arith) (omega (arith, roots-in))));
    root = λ rep f. lesser-is f;
  }
    where
      lesser-is : {rep : ℕ → ℕ} → Forest old m rep → lesser ≡ lesser_of (rep a) (rep b)
      lesser-is {rep} f = omega (arith, x-is f, y-is f, lesser-min (rep a) (rep b))

      greater-is : {rep : ℕ → ℕ} → Forest old m rep → (greater ≡ rep a) ⊎ (greater ≡ rep b)
      greater-is {rep} f =
          ⊎_elim {C = (greater ≡ rep a) ⊎ (greater ≡ rep b)}
          (λ (l : x < y). inr (omega (arith, y-is f))) (λ (l : y ≤ x). inl (omega (arith, x-is f))) (cases_lt x y)

-- the root of the tree is one of the labels
pub linked-in : {old new : List ℕ} {m a b r : ℕ} → Joinable old m a b → Linked old new m a b r → r ≤ m
linked-in {a = a} {b = b} g k =
    let t = g.trees in
    omega (arith, k.root t.rep t.forest, lesser-min (t.rep a) (t.rep b), t.forest.low a, g.a_in)
