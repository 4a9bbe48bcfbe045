-- `labels::LabelTrees::find` meets its contract. The loop's invariant: the trees have the roots that they had, and a has the root of l.
-- Assumes nothing.
use Rattle.std.proofs.Common.{◌≡◌, ℕ, ◌≤◌, ◌<◌, List, length, get_or, refl, sym, ap, ◌∙◌, arith, length-set}
use Rattle.labels.specs.steps.Trees.{Trees, Forest}
use Rattle.labels.proofs.Forests.{parent-most, grandparent, halved}
use Rattle.labels.proofs.LabelTrees.find.Goals as goal

-- of a label that is no root, its parent and its parent's parent are labels, and the last is below the first
below : {old parents : List ℕ} {m a b l : ℕ} (t : Trees old m) → a ≤ m → b ≡ get_or parents a 0 → (b ≡ a → ⊥)
    → ((rep : ℕ → ℕ) → Forest old m rep → Forest parents m rep × (rep a ≡ rep l))
    → (get_or parents b 0 < a) × (b ≤ a) × (a < length parents)
below t low e no-root same =
    let f = (same t.rep t.forest).0 in (
      rw e (grandparent f _ low (λ q. no-root (e ∙ q))),
      omega (arith, e, f.down _ low),
      omega (arith, f.room, low),
    )

pub bounds-parents-b : goal.bounds-parents-b
bounds-parents-b c =
    let i = c.loop-b.invariant in
    omega (arith, below c.requires.trees i.low i.parent c.loop-b-test.true i.trees)

pub bounds-parents-a-in-loop-b-2 : goal.bounds-parents-a-in-loop-b-2
bounds-parents-a-in-loop-b-2 c =
    let i = c.loop-b.invariant in
    simp length-set (omega (arith, below c.requires.trees i.low i.parent c.loop-b-test.true i.trees))

pub loop-b-smaller : goal.loop-b-smaller
loop-b-smaller c = let i = c.loop-b.invariant in (below c.requires.trees i.low i.parent c.loop-b-test.true i.trees).0

pub loop-b-preserved : goal.loop-b-preserved
loop-b-preserved c =
    let l = c.loop-b in
    let i = l.invariant in
    let b = get_or l.parents l.a 0 in
    let e : get_or l.parents l.b 0 ≡ get_or l.parents b 0 = ap (λ (k : ℕ). get_or l.parents k 0) i.parent in
    record {
      low = omega (arith, i.low, below c.requires.trees i.low i.parent c.loop-b-test.true i.trees);
      parent = refl;
      trees = λ rep g. (
          let f = (i.trees rep g).0 in
          (rw e (halved f l.a i.low), ap rep e ∙ f.along b (parent-most f l.a i.low) ∙ f.along l.a i.low ∙ (i.trees rep g).1));
    }

pub returns-clause-found : goal.returns-clause-found
returns-clause-found c =
    let l = c.loop-b in
    let i = l.invariant in
    record {
      same_trees = λ rep f. (i.trees rep f).0;
      root = λ rep f. (let y = i.trees rep f in sym (y.0.top l.a i.low (sym i.parent ∙ c.loop-b-test.false)) ∙ y.1);
    }
