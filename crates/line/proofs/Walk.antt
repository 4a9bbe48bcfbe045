-- The laws of a first-least walk: its answer is a site, no site is strictly better, each site before it is strictly worse;
-- and these determine it.
-- Assumes nothing.
use mathlib.Core.Path.{◌≡◌, refl, ap}
use mathlib.Core.Bool.{true, false, cond}
use mathlib.Core.Option.{Option, none, some}
use mathlib.Core.Logic.{⊎_elim}
use Prim.Native.Nat.{ℕ, zero, suc, ◌≤◌, ◌<◌}
use native.Mathlib.Nat.{not-suc-le-zero}
use native.Mathlib.Omega.{arith}
use borrow.Author.Tests.{lt-ltb, le-ltb}
use Rattle.line.specs.steps.FirstLeast.{first_least, First, Answers}
use Rattle.line.specs.Walk.{lower}
use Rattle.line.specs.Grid.{value_of}
use Rattle.plane.proofs.Search.{below_suc}
use Rattle.std.proofs.lemmas.Bool.{cases_lt}

-- no place holds a number and none at once
pub clash : {R : Type 0} (v : Option ℕ) (a : ℕ) → v ≡ none → v ≡ some a → R
clash v a p q = let z : ◌≡◌ {A = ℕ} 0 1 = cc in absurd (omega arith)

-- a number is one
pub same : (v : Option ℕ) (a b : ℕ) → v ≡ some a → v ≡ some b → a ≡ b
same v a b p q = cc

-- the test of the walk
no_less : (a b : ℕ) → b ≤ a → lower (some a) (some b) ≡ false
unfolding lower
no_less a b l = le-ltb a b l

less : (a b : ℕ) → a < b → lower (some a) (some b) ≡ true
unfolding lower
less a b l = lt-ltb a b l

module _ (f : ℕ → Option ℕ) where
  -- the leader stays
  stays : (n i v : ℕ) → First f n i v → ((w : ℕ) → f n ≡ some w → v ≤ w) → First f (suc n) i v
  stays n i v h p = record {
    inside = omega (arith, h.inside);
    here = h.here;
    least = λ j w l. below_suc (λ (k : ℕ). (x : ℕ) → f k ≡ some x → v ≤ x) n (λ k l x. h.least k x l) p j l w;
    first = h.first;
  }

  -- place n takes the lead
  takes : (n v : ℕ) → f n ≡ some v → ((j w : ℕ) → j < n → f j ≡ some w → v < w) → First f (suc n) n v
  takes n v e p = record {
    inside = omega arith;
    here = e;
    least = λ j w l.
        below_suc (λ (k : ℕ). (x : ℕ) → f k ≡ some x → v ≤ x) n (λ k l x q. (let g = p k x l q in omega arith))
        (λ x q. (let g = same (f n) v x e q in omega arith)) j l w;
    first = p;
  }

  step : (n : ℕ) (b a : Option ℕ) → f n ≡ a → Answers f n b → Answers f (suc n) (cond (lower a (value_of f b)) (some n) b)
  unfolding lower value_of
  step n none none e h = below_suc (λ (k : ℕ). f k ≡ none) n h e
  step n none (some w) e h = (w, takes n w e (λ j x l q. clash (f j) x (h j l) q))
  step n (some i) none e h = (h.0, stays n i h.0 h.1 (λ w q. clash (f n) w e q))
  step n (some i) (some w) e h =
      rw h.1.here
      (⊎_elim
      (λ (l : w < h.0).
      rw (less w h.0 l) (w, takes n w e (λ j x g q. (let z = h.1.least j x g q in omega arith))))
      (λ (l : h.0 ≤ w).
      rw (no_less w h.0 l) (h.0, stays n i h.0 h.1 (λ x q. (let z = same (f n) w x e q in omega arith))))
      (cases_lt w h.0))

  -- what the walk answers is so
  pub walk-answers : (n : ℕ) → Answers f n (first_least f n)
  unfolding first_least
  walk-answers zero = λ j l. absurd (not-suc-le-zero l)
  walk-answers (suc n) = step n (first_least f n) (f n) refl (walk-answers n)

  -- two answers are one
  one_answer : (n : ℕ) (a b : Option ℕ) → Answers f n a → Answers f n b → a ≡ b
  one_answer n none none p q = refl
  one_answer n none (some j) p q = clash (f j) q.0 (p j q.1.inside) q.1.here
  one_answer n (some i) none p q = clash (f i) p.0 (q i p.1.inside) p.1.here
  one_answer n (some i) (some j) p q =
      let x = p.1.least j q.0 q.1.inside q.1.here in
      let y = q.1.least i p.0 p.1.inside p.1.here in
      let e : i ≡ j =
      ⊎_elim
      (λ (l : i < j). (let z = q.1.first i p.0 l p.1.here in absurd (omega arith)))
      (λ (l : j ≤ i).
      ⊎_elim
      (λ (g : j < i). (let z = p.1.first j q.0 g q.1.here in absurd (omega arith)))
      (λ (g : i ≤ j). omega arith)
      (cases_lt j i))
      (cases_lt i j) in
      ap {B = Option ℕ} some e

  -- and nothing else is
  pub walk_is : (n : ℕ) (b : Option ℕ) → Answers f n b → first_least f n ≡ b
  walk_is n b h = one_answer n (first_least f n) b (walk-answers n) h
