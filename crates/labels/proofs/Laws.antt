-- Laws of labels, over the definitions alone: 0 off the mask (label-off); equal exactly where pixels are joined (joined-label,
-- label-joined); in raster order of first pixels (label-order); every number up to the number of parts occurs (label-occurs).
-- Assumes nothing.
use mathlib.Core.Path.{◌≡◌, sym, ap, ◌∙◌}
use mathlib.Core.Bool.{true, false}
use mathlib.Core.Logic.{⊎_elim}
use mathlib.Core.List.{List}
use Prim.Native.Nat.{ℕ, ◌+◌, ◌*◌, ◌-◌, ◌≤◌, ◌<◌}
use native.Mathlib.Omega.{arith}
use lib.ListN.{length}
use Rattle.plane.specs.Search.{count_below}
use Rattle.std.proofs.lemmas.Bool.{cases_Bool, cases_lt}
use Rattle.plane.specs.Mask.{is_on}
use Rattle.labels.specs.Labels.{Joined, first_pixel, is_first, parts, label_of}
use Rattle.labels.proofs.Counts.{count-strict, count-reached}
use Rattle.labels.proofs.Joined.{start-on, end_on}
use Rattle.labels.proofs.Firsts.{first_same, same_first, is-first, first_on}

module _ (mask : List ℕ) (h w : ℕ) where
  -- an off-pixel has the label 0
  pub label-off : (i : ℕ) → is_on mask i ≡ false → label_of mask h w i ≡ 0
  unfolding label_of
  label-off i e = rw e

  -- an on-pixel has 1 more than the number of parts that begin before its own
  pub label-on : (i : ℕ) → is_on mask i ≡ true → label_of mask h w i ≡ 1 + count_below (first_pixel mask h w i) (is_first mask h w)
  unfolding label_of
  label-on i e = rw e

  -- a pixel whose label is not 0 is on
  pub on-label : (i : ℕ) → 0 < label_of mask h w i → is_on mask i ≡ true
  on-label i l =
      ⊎_elim {C = is_on mask i ≡ true}
      (λ (e : is_on mask i ≡ true). e)
      (λ (e : is_on mask i ≡ false). (let q = label-off i e in absurd (omega arith)))
      (cases_Bool (is_on mask i))

  module _ (fits : length mask ≡ h * w) where
    -- pixels that are joined have one label
    pub joined-label : {i j : ℕ} → Joined mask w i j → label_of mask h w i ≡ label_of mask h w j
    joined-label {i} {j} r =
        label-on i (start-on r)
        ∙ ap (λ (n : ℕ). 1 + count_below n (is_first mask h w)) (first_same mask h w fits r)
        ∙ sym (label-on j (end_on r))

    -- the part that begins earlier has the lesser label
    pub label-order : (i j : ℕ) → is_on mask i ≡ true → is_on mask j ≡ true → first_pixel mask h w i < first_pixel mask h w j
        → label_of mask h w i < label_of mask h w j
    label-order i j e g l =
        let more = count-strict (is_first mask h w) (first_pixel mask h w i) (first_pixel mask h w j) l (is-first mask h w fits i e) in
        omega (arith, label-on i e, label-on j g)

    -- on-pixels with one label are joined
    pub label-joined : (i j : ℕ) → is_on mask i ≡ true → label_of mask h w i ≡ label_of mask h w j → Joined mask w i j
    label-joined i j e q =
        let g : is_on mask j ≡ true = on-label j (omega (arith, label-on i e)) in
        same_first mask h w fits i j e g
        (⊎_elim {C = first_pixel mask h w i ≡ first_pixel mask h w j}
        (λ (l : first_pixel mask h w i < first_pixel mask h w j). (let z = label-order i j e g l in absurd (omega arith)))
        (λ (l : first_pixel mask h w j ≤ first_pixel mask h w i).
        ⊎_elim {C = first_pixel mask h w i ≡ first_pixel mask h w j}
        (λ (m : first_pixel mask h w j < first_pixel mask h w i). (let z = label-order j i g e m in absurd (omega arith)))
        (λ (m : first_pixel mask h w i ≤ first_pixel mask h w j). omega arith)
        (cases_lt (first_pixel mask h w j) (first_pixel mask h w i)))
        (cases_lt (first_pixel mask h w i) (first_pixel mask h w j)))

    -- every number from 1 to the number of parts is the label of some part's first pixel
    pub label-occurs : (n : ℕ) → 1 ≤ n → n ≤ parts mask h w → (i : ℕ) × (i < h * w) × (is_first mask h w i ≡ true) × (label_of mask h w i ≡ n)
    unfolding parts
    label-occurs n a b =
        let z = count-reached (is_first mask h w) (h * w) (n - 1) (omega arith) in
        let f = first_on mask h w fits z.0 z.2 in
        let q : count_below (first_pixel mask h w z.0) (is_first mask h w) ≡ n - 1 = rw f.1 z.3 in
        (z.0, z.1, z.2, omega (arith, label-on z.0 f.0))
