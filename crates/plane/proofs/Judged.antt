-- Laws of tests in order that are given with their refusals.
-- Assumes nothing.
use mathlib.Core.Path.{◌≡◌, refl, sym, ap, ◌∙◌}
use mathlib.Core.Bool.{Bool, true, false, cond}
use mathlib.Core.List.{List, [], ◌∷◌}
use Prim.Native.Nat.{ℕ, ◌+◌, ◌≤◌, ◌<◌}
use native.Mathlib.Numerals.{add-one}
use native.Mathlib.Omega.{arith}
use lib.ListN.{length, get_or, drop}
use Rattle.std.proofs.Math.Seq.{drop-cons}
use Rattle.std.proofs.lemmas.List.{drop_all}
use Rattle.std.proofs.Common.{Result, Ok, Err}
use Rattle.plane.specs.Refusal.{Test, refusal_of, done_for, number_of}
use Rattle.plane.specs.steps.Judged.{tests_of}
use Rattle.plane.specs.declared.answer.Refusal.{Refusal}
use Rattle.plane.proofs.Refusal.{passed_first, is-accepted, declined, number-some, refusal_by-number}

-- what is declined by a refusal has its number
pub declined-by : (r : Refusal) → done_for (number_of r) ≡ Err r
declined-by r = declined (number_of r) tt (λ z. omega (arith, number-some r)) ∙ ap Err (refusal_by-number r)

module _ (ts : List (Bool × Refusal)) (i : ℕ) (d : Bool × Refusal) (l : i < length ts) where
  -- from test i on
  from : refusal_of (tests_of (drop i ts)) ≡ cond (get_or ts i d).0 (refusal_of (tests_of (drop (i + 1) ts))) (number_of (get_or ts i d).1)
  unfolding tests_of refusal_of
  from = rw (drop-cons ts i d l, add-one) refl

  -- test i holds, and the tests after it decide
  pub judged-holds : (get_or ts i d).0 ≡ true → refusal_of (tests_of (drop (i + 1) ts)) ≡ refusal_of (tests_of (drop i ts))
  judged-holds e = rw (from, e) refl

  -- test i fails
  pub judged-fails : (get_or ts i d).0 ≡ false → refusal_of (tests_of (drop i ts)) ≡ number_of (get_or ts i d).1
  judged-fails e = rw (from, e) refl

-- no test is left
pub judged-all : (ts : List (Bool × Refusal)) (i : ℕ) → length ts ≤ i → refusal_of (tests_of (drop i ts)) ≡ 0
unfolding tests_of refusal_of
judged-all ts i l = rw (drop_all i ts l) refl

-- once the sides are accepted, the tests after them decide
pub after-sides : (s : Bool) (ts : List Test) {a : Result Unit Refusal} → Ok tt ≡ done_for (refusal_of ((1, s) ∷ []))
    → a ≡ done_for (refusal_of ts) → a ≡ done_for (refusal_of ((1, s) ∷ ts))
after-sides s ts e f = f ∙ ap done_for (sym (passed_first ((1, s) ∷ []) ts refl (is-accepted _ _ _ e)))
