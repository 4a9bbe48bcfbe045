-- Two stages give what one walk gives: the law that composes two first-least walks, for any number of axes.
-- Assumes nothing.
use mathlib.Core.Path.{◌≡◌, refl, sym, ap, ◌∙◌}
use mathlib.Core.Bool.{Bool, true, false, cond}
use mathlib.Core.List.{List, [], ◌∷◌, ◌++◌, map}
use mathlib.Core.Option.{Option, none, some}
use mathlib.Core.Logic.{⊎_elim}
use Prim.Native.Nat.{ℕ, zero, suc, ◌+◌, ◌*◌, ◌≤◌, ◌<◌}
use native.Mathlib.Omega.{arith}
use lib.ListN.{length}
use borrow.Author.Tests.{lt-ltb, le-ltb}
use Rattle.line.specs.steps.FirstLeast.{first_least}
use Rattle.line.specs.Walk.{lower}
use Rattle.line.specs.steps.Line.{value_at, offer, best}
use Rattle.line.specs.steps.Columns.{attach, chosen, Encodes}
use Rattle.line.specs.Grid.{value_of, walk, upto, grid, plus}
use Rattle.plane.specs.Plane.{apart}
use Rattle.std.proofs.lemmas.Bool.{cases_lt}
use Rattle.line.proofs.Best.{offer-site, offer-none}

-- the second where it is strictly better, else the first
unfoldable pub better : {P : Type 0} → (P → Option ℕ) → Option P → Option P → Option P
better f b c = cond (lower (value_of f c) (value_of f b)) c b

-- the places of one column
abbrev column : {P : Type 0} → ℕ → List P → List (ℕ × P)
column {P} n ps = map {B = ℕ × P} (λ (p : P). (n, p)) ps

module _ {P : Type 0} (f : P → Option ℕ) where
  walk-append : (b : Option P) (ps qs : List P) → walk f b (ps ++ qs) ≡ walk f (walk f b ps) qs
  unfolding walk
  walk-append b [] qs = refl
  walk-append b (p ∷ ps) qs = walk-append (cond (lower (f p) (value_of f b)) (some p) b) ps qs

  -- numbers a of b, v of p, w of c, each where it is known
  regroup : (b : Option P) (p : P) (c : Option P) (a v w : Option ℕ) → value_of f b ≡ a → f p ≡ v → value_of f c ≡ w
      → better f (cond (lower (f p) (value_of f b)) (some p) b) c ≡ better f b (better f (cond (lower (f p) none) (some p) none) c)
  unfolding better lower value_of
  regroup b p c a none none ea ev ew = simp (ea, ev, ew)
  regroup b p c a none (some w) ea ev ew = simp (ev, ew)
  regroup b p c none (some v) none ea ev ew = simp (ea, ev, ew)
  regroup b p c none (some v) (some w) ea ev ew =
      ⊎_elim
      (λ (h : w < v). (let t = lt-ltb w v h in simp (ea, ev, ew, t)))
      (λ (h : v ≤ w). (let t = le-ltb w v h in simp (ea, ev, ew, t)))
      (cases_lt w v)
  regroup b p c (some a) (some v) none ea ev ew =
      ⊎_elim
      (λ (h : v < a). (let t = lt-ltb v a h in simp (ea, ev, ew, t)))
      (λ (h : a ≤ v). (let t = le-ltb v a h in simp (ea, ev, ew, t)))
      (cases_lt v a)
  regroup b p c (some a) (some v) (some w) ea ev ew =
      ⊎_elim
      (λ (h : v < a).
      let t = lt-ltb v a h in
      ⊎_elim
      (λ (g : w < v). (let q = lt-ltb w v g in let r = lt-ltb w a (omega arith) in simp (ea, ev, ew, t, q, r)))
      (λ (g : v ≤ w). (let q = le-ltb w v g in simp (ea, ev, ew, t, q)))
      (cases_lt w v))
      (λ (h : a ≤ v).
      let t = le-ltb v a h in
      ⊎_elim
      (λ (g : w < v). (let q = lt-ltb w v g in simp (ea, ev, ew, t, q)))
      (λ (g : v ≤ w). (let q = le-ltb w v g in let r = le-ltb w a (omega arith) in simp (ea, ev, ew, t, q, r)))
      (cases_lt w v))
      (cases_lt v a)

  -- a walk from b is b, or what the walk from nothing gives where that is strictly better
  walk_from : (b : Option P) (ps : List P) → walk f b ps ≡ better f b (walk f none ps)
  unfolding walk
  walk_from b [] = unfold better lower value_of in refl
  walk_from b (p ∷ ps) =
      walk_from (cond (lower (f p) (value_of f b)) (some p) b) ps
      ∙ regroup b p (walk f none ps) (value_of f b) (f p) (value_of f (walk f none ps)) refl refl refl
      ∙ ap (better f b) (sym (walk_from (cond (lower (f p) none) (some p) none) ps) ∙ unfold value_of in refl)

module _ {P : Type 0} (f : ℕ → P → Option ℕ) where
  -- the numbers of the grid
  abbrev pub over : ℕ × P → Option ℕ
  over q = f q.0 q.1

  attach-value : (i : ℕ) (b : Option P) → value_of over (attach i b) ≡ value_of (f i) b
  unfolding value_of attach
  attach-value i none = refl
  attach-value i (some p) = refl

  attach-cond : (i : ℕ) (t : Bool) (p : P) (b : Option P) → cond t (some (i, p)) (attach i b) ≡ attach i (cond t (some p) b)
  unfolding attach
  attach-cond i true p b = refl
  attach-cond i false p b = refl

  -- down a column the grid's walk is the column's
  walk-column : (i : ℕ) (b : Option P) (ps : List P) → walk over (attach i b) (column i ps) ≡ attach i (walk (f i) b ps)
  unfolding walk
  walk-column i b [] = refl
  walk-column i b (p ∷ ps) =
      ap (λ (c : Option (ℕ × P)). walk over c (column i ps))
      (rw (attach-value i b) (attach-cond i (lower (f i p) (value_of (f i) b)) p b))
      ∙ walk-column i (cond (lower (f i p) (value_of (f i) b)) (some p) b) ps

  module _ (ps : List P) where
    -- a column's answer, and its number
    abbrev pub column_best : ℕ → Option P
    column_best i = walk (f i) none ps

    abbrev pub column_cost : ℕ → Option ℕ
    column_cost i = value_of (f i) (walk (f i) none ps)

    chosen-value : (b : Option ℕ) → value_of over (chosen column_best b) ≡ value_of column_cost b
    unfolding value_of chosen
    chosen-value none = refl
    chosen-value (some i) = attach-value i (column_best i)

    chosen-cond : (n : ℕ) (t : Bool) (b : Option ℕ)
        → cond t (attach n (column_best n)) (chosen column_best b) ≡ chosen column_best (cond t (some n) b)
    unfolding chosen
    chosen-cond n true b = refl
    chosen-cond n false b = refl

    first_column : (n : ℕ) → walk over none (column n ps) ≡ attach n (column_best n)
    unfolding attach
    first_column n = walk-column n none ps

    next-column : (n : ℕ) (b : Option ℕ)
        → better over (chosen column_best b) (attach n (column_best n))
        ≡ chosen column_best (cond (lower (column_cost n) (value_of column_cost b)) (some n) b)
    unfolding better
    next-column n b = rw (attach-value n (column_best n), chosen-value b) (chosen-cond n (lower (column_cost n) (value_of column_cost b)) b)

    -- the law: one walk over the grid, columns outermost, is the walk over the columns' answers
    pub compose : (n : ℕ) → walk over none (grid n ps) ≡ chosen column_best (first_least column_cost n)
    unfolding grid first_least
    compose zero = unfold walk chosen in refl
    compose (suc n) =
        walk-append over none (grid n ps) (column n ps)
        ∙ ap (λ (b : Option (ℕ × P)). walk over b (column n ps)) (compose n)
        ∙ walk_from over (chosen column_best (first_least column_cost n)) (column n ps)
        ∙ ap (better over (chosen column_best (first_least column_cost n))) (first_column n)
        ∙ next-column n (first_least column_cost n)

-- a number added to all of a walk changes no answer
plus-value : {P : Type 0} (f : P → Option ℕ) (k : ℕ) (b : Option P) → value_of (λ (p : P). plus k (f p)) b ≡ plus k (value_of f b)
unfolding value_of plus
plus-value f k none = refl
plus-value f k (some p) = refl

plus-lower : (k : ℕ) (a b : Option ℕ) → lower (plus k a) (plus k b) ≡ lower a b
unfolding lower plus
plus-lower k none b = refl
plus-lower k (some a) none = refl
plus-lower k (some a) (some b) =
    ⊎_elim
    (λ (h : a < b). lt-ltb (a + k) (b + k) (omega arith) ∙ sym (lt-ltb a b h))
    (λ (h : b ≤ a). le-ltb (a + k) (b + k) (omega arith) ∙ sym (le-ltb a b h))
    (cases_lt a b)

walk-plus : {P : Type 0} (f : P → Option ℕ) (k : ℕ) (b : Option P) (ps : List P) → walk (λ (p : P). plus k (f p)) b ps ≡ walk f b ps
unfolding walk
walk-plus f k b [] = refl
walk-plus {P} f k b (p ∷ ps) =
    ap (λ (c : Option P). walk (λ (q : P). plus k (f q)) c ps)
    (ap (λ (t : Bool). cond t (some p) b) (ap (lower (plus k (f p))) (plus-value f k b) ∙ plus-lower k (f p) (value_of f b)))
    ∙ walk-plus f k (cond (lower (f p) (value_of f b)) (some p) b) ps

-- a walk along a line is one over its places
pub walk-line : (f : ℕ → Option ℕ) (n : ℕ) → walk f none (upto n) ≡ first_least f n
unfolding upto first_least walk
walk-line f zero = refl
walk-line f (suc n) =
    walk-append f none (upto n) (n ∷ [])
    ∙ ap (λ (b : Option ℕ). cond (lower (f n) (value_of f b)) (some n) b) (walk-line f n)

-- a walk sees the numbers of its places alone: equal numbers give one answer, and its number is the same
module _ (f g : ℕ → Option ℕ) where
  one_more : (n : ℕ) (t : Bool) (b c : Option ℕ) → f n ≡ g n → value_of f b ≡ value_of g c
      → value_of f (cond t (some n) b) ≡ value_of g (cond t (some n) c)
  one_more n true b c e h = unfold value_of in e
  one_more n false b c e h = h

  same-walk : (n : ℕ) → ((i : ℕ) → i < n → f i ≡ g i)
      → (first_least f n ≡ first_least g n) × (value_of f (first_least f n) ≡ value_of g (first_least g n))
  unfolding first_least
  same-walk zero h = (refl, unfold value_of in refl)
  same-walk (suc n) h =
      let e = h n (omega arith) in
      let r = same-walk n (λ i l. h i (omega arith)) in
      (rw (e, r.1, r.0), rw (e, r.1) (one_more n (lower (g n) (value_of g (first_least g n))) (first_least f n) (first_least g n) e r.1))

-- the line pass over the costs of the columns
offer-encoded : (costs : List ℕ) (c : ℕ → Option ℕ) (x : ℕ) → Encodes costs c → (i : ℕ) → i < length costs → (v : Option ℕ) → c i ≡ v
    → plus (apart x i * apart x i) v ≡ offer costs x i
unfolding plus value_at
offer-encoded costs c x e i l none q = sym (offer-none costs x i (e.no_cost i l q))
offer-encoded costs c x e i l (some a) q =
    let z = e.some_cost i a l q in
    let y = z.0 in
    let w = z.1 in
    sym (offer-site costs x i (omega arith) ∙ rw y)

-- two stages: where the costs of a line are those of the columns' answers, the walk over the grid is the line pass and the
-- column's answer there
module _ {P : Type 0} (c : ℕ → P → Option ℕ) (ps : List P) (x : ℕ) where
  -- the number of a place: its number in its column, and the square of the column's distance
  abbrev pub far : ℕ → P → Option ℕ
  far i p = plus (apart x i * apart x i) (c i p)

  far-cost : (i : ℕ) → column_cost far ps i ≡ plus (apart x i * apart x i) (column_cost c ps i)
  far-cost i =
      ap (value_of (far i)) (walk-plus (c i) (apart x i * apart x i) none ps) ∙ plus-value (c i) (apart x i * apart x i) (column_best c ps i)

  far-chosen : (b : Option ℕ) → chosen (column_best far ps) b ≡ chosen (column_best c ps) b
  unfolding chosen
  far-chosen none = refl
  far-chosen (some i) = ap (attach i) (walk-plus (c i) (apart x i * apart x i) none ps)

  module _ (costs : List ℕ) (e : Encodes costs (column_cost c ps)) where
    -- the numbers of the columns' answers are those of the line pass
    offered : (i : ℕ) → i < length costs → column_cost far ps i ≡ offer costs x i
    offered i l = far-cost i ∙ offer-encoded costs (column_cost c ps) x e i l (column_cost c ps i) refl

    pub two-stages : walk (over far) none (grid (length costs) ps) ≡ chosen (column_best c ps) (best costs x)
    unfolding best
    two-stages =
        compose far ps (length costs)
        ∙ ap (chosen (column_best far ps)) (same-walk (column_cost far ps) (offer costs x) (length costs) offered).0
        ∙ far-chosen (best costs x)

    -- and the number of the grid's answer is the number of the line pass, so that a further axis takes it as its cost
    pub two-stages-value : value_of (over far) (walk (over far) none (grid (length costs) ps)) ≡ value_of (offer costs x) (best costs x)
    unfolding best
    two-stages-value =
        ap (value_of (over far)) (compose far ps (length costs))
        ∙ chosen-value far ps (first_least (column_cost far ps) (length costs))
        ∙ (same-walk (column_cost far ps) (offer costs x) (length costs) offered).1
