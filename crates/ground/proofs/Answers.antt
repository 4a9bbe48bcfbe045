-- The three ends of the search, by the outline's definitions.
-- Assumes nothing.
use mathlib.Core.Path.{◌≡◌, refl, ap, ◌∙◌}
use mathlib.Core.Bool.{Bool, true, false, ◌&&◌}
use mathlib.Core.Logic.{⊎_elim}
use mathlib.Core.List.{List, ◌∷◌}
use Prim.Native.Nat.{ℕ, zero, suc, ◌*◌, ◌≤◌, ◌<◌}
use native.Mathlib.Omega.{arith}
use lib.Dec.{leb}
use lib.ListN.{length, get_or, get_or-eq_default, replicate}
use lib.Ieee.{Float}
use Rattle.plane.specs.Plane.{bit, table}
use Rattle.plane.specs.Mask.{some_off}
use Rattle.plane.proofs.Plane.{table-length, table_at, bit-most}
use Rattle.plane.proofs.Search.{and_no}
use Rattle.std.proofs.lemmas.Bool.{cases_lt}
use Rattle.colour.specs.declared.Rgb.{Rgb}
use Rattle.std.specs.Prelude.{Option, Some, None}
use Rattle.outline.specs.Border.{border_list}
use Rattle.outline.specs.Ground.{is_close, close_plane, ground_from, ground_of, count_on, found_from, is_found, ground_plane}
use Rattle.outline.specs.Answer.{found_reference}
use Rattle.flood.specs.steps.Flood.{Closed}

-- a table of 0
zeros : (n k : ℕ) → table {A = ℕ} (λ (i : ℕ). 0) k n ≡ replicate n 0
unfolding table
zeros zero k = refl
zeros (suc n) k = ap (λ (l : List ℕ). 0 ∷ l) (zeros n (suc k))

module _ (colours : List Float) (h w : ℕ) (reference : Rgb) (tolerance : Float) where
  -- the close pixels of the picture
  abbrev close : List ℕ
  close = close_plane colours h w reference tolerance

  close-length : length close ≡ h * w
  unfolding close_plane
  close-length = table-length (λ (i : ℕ). bit (is_close colours reference tolerance i)) 0 (h * w)

  close-bits : (k : ℕ) → get_or close k 0 ≤ 1
  unfolding close_plane
  close-bits k =
      let f : ℕ → ℕ = λ i. bit (is_close colours reference tolerance i) in
      ⊎_elim {C = get_or close k 0 ≤ 1}
      (λ (l : k < h * w). rw (table_at f (h * w) k 0 l) (bit-most (is_close colours reference tolerance k)))
      (λ (l : h * w ≤ k). (let z = get_or-eq_default close 0 {n = k} (omega (arith, close-length)) in omega arith))
      (cases_lt k (h * w))

  pub close-closed : (p : List ℕ) → p ≡ close → Closed p h w
  close-closed p e = rw e (record { output = close-length; bits = close-bits })

  -- what is answered and written
  abbrev pub Answered : Option Rgb → List ℕ → Type 0
  Answered r z = (r ≡ found_reference colours h w reference tolerance) × (z ≡ ground_plane colours h w reference tolerance)

  -- whether nine tenths of the border list are on
  abbrev nine_tenths : List ℕ → Bool
  nine_tenths p = leb (9 * length (border_list h w)) (10 * count_on p (border_list h w))

  -- a plane of 0
  abbrev Cleared : List ℕ → ℕ → Type 0
  Cleared z n = (n ≡ h * w) × (z ≡ replicate n 0)

  absent : (n : ℕ) (z : List ℕ) → is_found colours h w reference tolerance ≡ false → Cleared z n → Answered None z
  unfolding found_reference ground_plane
  absent n z t e = (rw t, rw (t, ← e.0, zeros n 0) e.1)

  -- too few are close
  pub absent-few : (p : List ℕ) (n : ℕ) (z : List ℕ) → p ≡ close → nine_tenths p ≡ false → Cleared z n → Answered None z
  unfolding is_found found_from
  absent-few p n z e t q = let u : nine_tenths close ≡ false = rw e at t in absent n z (rw u) q

  module _ (p v : List ℕ) (e : p ≡ close) (q : v ≡ ground_from p h w) (m : length v ≡ h * w) where
    ground-is : v ≡ ground_of colours h w reference tolerance
    unfolding ground_of
    ground-is = q ∙ ap (λ (t : List ℕ). ground_from t h w) e

    off-is : (b : Bool) → some_off v (length v) ≡ b → some_off (ground_of colours h w reference tolerance) (h * w) ≡ b
    off-is b t = rw (← ground-is, ← m) t

    -- all is ground
    pub absent-full : (n : ℕ) (z : List ℕ) → some_off v (length v) ≡ false → Cleared z n → Answered None z
    unfolding is_found found_from ground_of
    absent-full n z t y = absent n z (ap (λ (b : Bool). nine_tenths close && b) (off-is false t) ∙ and_no (nine_tenths close)) y

    -- the ground is found
    pub found : nine_tenths p ≡ true → some_off v (length v) ≡ true → Answered (Some reference) v
    unfolding found_reference ground_plane is_found found_from ground_of
    found s t =
        let u : nine_tenths close ≡ true = rw e at s in
        let f : is_found colours h w reference tolerance ≡ true = rw (u, off-is true t) in
        (rw f, rw f ground-is)
