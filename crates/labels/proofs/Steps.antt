-- The four steps as indices: w less, w more, 1 less, 1 more.
-- Assumes nothing.
use mathlib.Core.Path.{◌≡◌, ap, ◌∙◌}
use mathlib.Core.Bool.{true}
use mathlib.Core.Logic.{◌⊎◌, inl, inr, ⊎_elim}
use Prim.Native.Nat.{ℕ, ◌+◌, ◌*◌, ◌-◌, ◌/◌, ◌%◌, ◌≤◌, ◌<◌}
use native.Mathlib.Nat.{add-mul, one-mul, add-zero, div-add-mod', mod-lt, mul-add-div_right, mul-add-mod_self_right}
use native.Mathlib.Nat.{div-eq_of_lt, mod-eq_of_lt, add-div_right, add-mod_right}
use native.Mathlib.Omega.{arith}
use borrow.Author.Tests.{eqb-true, eq-eqb}
use Rattle.plane.specs.Plane.{apart}
use Rattle.plane.proofs.Plane.{row_of, pixel-in}
use Rattle.std.proofs.lemmas.Bool.{cases_lt}
use Rattle.labels.specs.Labels.{beside}
use Rattle.labels.proofs.Joined.{beside_back}

-- the row and the column of pixel (y, x)
pub row_is : (y x w : ℕ) → x < w → (y * w + x) / w ≡ y
row_is y x w l = mul-add-div_right {m = w} (omega arith) y x ∙ ap (λ (n : ℕ). y + n) (div-eq_of_lt l) ∙ add-zero y

pub column-is : (y x w : ℕ) → x < w → (y * w + x) % w ≡ x
column-is y x w l = mul-add-mod_self_right y w x ∙ mod-eq_of_lt l

module _ (w : ℕ) (wide : 0 < w) where
  -- pixel p + 1 is in p's row unless p ends it
  next : (p : ℕ) → p % w + 1 < w → ((p + 1) / w ≡ p / w) × ((p + 1) % w ≡ p % w + 1)
  next p l =
      let e : p + 1 ≡ p / w * w + (p % w + 1) = omega (arith, div-add-mod' p w) in
      (ap (λ (k : ℕ). k / w) e ∙ row_is (p / w) (p % w + 1) w l, ap (λ (k : ℕ). k % w) e ∙ column-is (p / w) (p % w + 1) w l)

  -- and in the plane
  pub next-in : (h p : ℕ) → p < h * w → p % w + 1 < w → p + 1 < h * w
  next-in h p i l =
      omega (arith, div-add-mod' p w, pixel-in (p / w) (p % w + 1) h w (row_of p h w wide i) l)

  pub beside-below : (p : ℕ) → beside w p (p + w) ≡ true
  unfolding beside apart
  beside-below p =
      eq-eqb (apart (p / w) ((p + w) / w) + apart (p % w) ((p + w) % w)) 1 (omega (arith, add-div_right p wide, add-mod_right p w))

  pub beside-above : (p : ℕ) → w ≤ p → beside w p (p - w) ≡ true
  beside-above p l =
      let e : (p - w) + w ≡ p = omega arith in
      let z : beside w ((p - w) + w) (p - w) ≡ true = beside_back w ((p - w) + w) (p - w) ∙ beside-below (p - w) in
      rw e at z

  pub beside-right : (p : ℕ) → p % w + 1 < w → beside w p (p + 1) ≡ true
  unfolding beside apart
  beside-right p l =
      let z = next p l in
      eq-eqb (apart (p / w) ((p + 1) / w) + apart (p % w) ((p + 1) % w)) 1 (omega (arith, z.0, z.1))

  pub beside-left : (p : ℕ) → 0 < p % w → beside w p (p - 1) ≡ true
  unfolding beside apart
  beside-left p l =
      let m = mod-lt p wide in
      let e : p - 1 ≡ p / w * w + (p % w - 1) = omega (arith, div-add-mod' p w) in
      let a : (p - 1) / w ≡ p / w = ap (λ (k : ℕ). k / w) e ∙ row_is (p / w) (p % w - 1) w (omega arith) in
      let b : (p - 1) % w ≡ p % w - 1 = ap (λ (k : ℕ). k % w) e ∙ column-is (p / w) (p % w - 1) w (omega arith) in
      eq-eqb (apart (p / w) ((p - 1) / w) + apart (p % w) ((p - 1) % w)) 1 (omega arith)

  -- there are no other steps
  abbrev pub Sides4 : ℕ → ℕ → Type 0
  Sides4 p j = ((w ≤ p) × (j ≡ p - w)) ⊎ ((j ≡ p + w) ⊎ (((0 < p % w) × (j ≡ p - 1)) ⊎ ((p % w + 1 < w) × (j ≡ p + 1))))

  pub beside-sides : (p j : ℕ) → beside w p j ≡ true → Sides4 p j
  unfolding beside apart
  beside-sides p j t =
      let e = eqb-true (apart (p / w) (j / w) + apart (p % w) (j % w)) 1 t in
      let a = div-add-mod' p w in
      let b = div-add-mod' j w in
      let m = mod-lt j wide in
      let one_more : (k : ℕ) → (k + 1) * w ≡ k * w + w = λ k. add-mul k 1 w ∙ ap (λ (n : ℕ). k * w + n) (one-mul w) in
      ⊎_elim {C = Sides4 p j}
      (λ (l : p / w < j / w). (
      let q : j / w * w ≡ p / w * w + w = ap (λ (k : ℕ). k * w) (let r : j / w ≡ p / w + 1 = omega arith in r) ∙ one_more (p / w) in
      inr (inl (omega arith))))
      (λ (l : j / w ≤ p / w).
      ⊎_elim {C = Sides4 p j}
      (λ (k : j / w < p / w). (
      let q : p / w * w ≡ j / w * w + w = ap (λ (k : ℕ). k * w) (let r : p / w ≡ j / w + 1 = omega arith in r) ∙ one_more (j / w) in
      inl (omega arith, omega arith)))
      (λ (k : p / w ≤ j / w). (
      let q : p / w * w ≡ j / w * w = ap (λ (k : ℕ). k * w) (let r : p / w ≡ j / w = omega arith in r) in
      ⊎_elim {C = Sides4 p j}
      (λ (x : p % w < j % w). inr (inr (inr (omega arith, omega arith))))
      (λ (x : j % w ≤ p % w). inr (inr (inl (omega arith, omega arith))))
      (cases_lt (p % w) (j % w))))
      (cases_lt (j / w) (p / w)))
      (cases_lt (p / w) (j / w))
