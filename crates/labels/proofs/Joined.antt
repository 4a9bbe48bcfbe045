-- Laws of steps and of what they join.
-- Assumes nothing.
use mathlib.Core.Path.{◌≡◌, ◌∙◌}
use mathlib.Core.Bool.{true}
use mathlib.Core.List.{List}
use Prim.Native.Nat.{ℕ, ◌/◌, ◌%◌}
use Rattle.plane.proofs.Plane.{apart-back}
use Rattle.plane.specs.Mask.{is_on}
use Rattle.labels.specs.Labels.{beside, Joined, same, onward}

-- a step may be taken back
pub beside_back : (w i j : ℕ) → beside w i j ≡ beside w j i
unfolding beside
beside_back w i j = rw (apart-back (i / w) (j / w), apart-back (i % w) (j % w))

module _ {mask : List ℕ} {w : ℕ} where
  -- both ends are on
  pub start-on : {i j : ℕ} → Joined mask w i j → is_on mask i ≡ true
  start-on (same e) = e
  start-on (onward r b e) = start-on r

  pub end_on : {i j : ℕ} → Joined mask w i j → is_on mask j ≡ true
  end_on (same e) = e
  end_on (onward r b e) = e

  -- Joined is an equivalence on the on-pixels: `same` is its first law, these are the other two
  pub joined-trans : {i j k : ℕ} → Joined mask w i j → Joined mask w j k → Joined mask w i k
  joined-trans p (same e) = p
  joined-trans p (onward r b e) = onward (joined-trans p r) b e

  pub joined-sym : {i j : ℕ} → Joined mask w i j → Joined mask w j i
  joined-sym (same e) = same e
  joined-sym (onward {j = j} {k = k} r b e) = joined-trans (onward (same e) (beside_back w k j ∙ b) (end_on r)) (joined-sym r)

  -- what holds of a pixel and passes along every step over on-pixels holds of all that is joined to it
  pub spreads : (P : ℕ → Type 0) → ((i j : ℕ) → P i → beside w i j ≡ true → is_on mask j ≡ true → P j)
      → {i j : ℕ} → Joined mask w i j → P i → P j
  spreads P s (same e) p = p
  spreads P s (onward {j = j} {k = k} r b e) p = s j k (spreads P s r p) b e
