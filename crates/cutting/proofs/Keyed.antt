-- From the parts of the cut to its definition.
-- Assumes nothing.
use mathlib.Core.Path.{◌≡◌, refl, sym, ap, ◌∙◌}
use mathlib.Core.Bool.{Bool, true, false, cond, not, ◌&&◌}
use mathlib.Core.List.{List}
use Prim.Native.Nat.{ℕ, ◌*◌}
use native.Mathlib.Omega.{arith}
use lib.ListN.{length, get_or}
use lib.Ieee.{Float}
use lib.IntN.{ℤ}
use borrow.Author.Tests.{not-true}
use Rattle.plane.specs.Plane.{on, table}
use Rattle.plane.specs.Mask.{is_on, mask_of, some_off}
use Rattle.plane.specs.steps.Complement.{complement_of}
use Rattle.plane.proofs.Search.{not-both, none_found}
use Rattle.plane.proofs.Plane.{table-length, table_at}
use Rattle.plane.proofs.Mask.{mask-on, mask-same}
use Rattle.std.proofs.lemmas.Bool.{and_parts}
use Rattle.colour.specs.declared.Rgb.{Rgb}
use Rattle.colour.specs.declared.Settings.{Settings}
use Rattle.colour.specs.Settings.{on_of, passes_of}
use Rattle.outline.specs.Ground.{ground_of, is_found, ground_plane}
use Rattle.outline.specs.Cut.{alpha_mask, is_sought, is_keyed, grown_ground, cut_mask}
use Rattle.std.specs.Prelude.{Option, Some, None}
use Rattle.std.specs.Option.{is_some}
use Rattle.outline.specs.Answer.{found_reference}
use Rattle.cutting.specs.steps.Key.{keyed_plane}

-- ---- what the search of the ground answered

module _ (colours : List Float) (h w : ℕ) (reference : Rgb) (t : Float) where
  no-so : (b : Bool) (q : Rgb) → ((x : Rgb) → cond b (Some q) None ≡ Some x → ⊥) → b ≡ false
  no-so true q none = absurd (none q refl)
  no-so false q none = refl

  pub not_found : (g : Option Rgb) → g ≡ found_reference colours h w reference t → ((x : Rgb) → g ≡ Some x → ⊥)
      → is_found colours h w reference t ≡ false
  unfolding found_reference
  not_found g e none = no-so (is_found colours h w reference t) reference (λ x f. none x (e ∙ f))

  some-so : (b : Bool) (q : Rgb) → is_some (cond b (Some q) None) ≡ b
  some-so true q = refl
  some-so false q = refl

  pub found-some : is_some (found_reference colours h w reference t) ≡ is_found colours h w reference t
  unfolding found_reference
  found-some = some-so (is_found colours h w reference t) reference

  yes-so : (b : Bool) (q r : Rgb) → cond b (Some q) None ≡ Some r → (b ≡ true) × (r ≡ q)
  yes-so true q r e = let z : q ≡ r = cc in (refl, sym z)
  yes-so false q r e = let z : ◌≡◌ {A = ℕ} 0 1 = cc in absurd (omega arith)

  pub was-found : (r : Rgb) → found_reference colours h w reference t ≡ Some r
      → (is_found colours h w reference t ≡ true) × (r ≡ reference)
  unfolding found_reference
  was-found r e = yes-so (is_found colours h w reference t) reference r e

  pub found-plane : is_found colours h w reference t ≡ true → ground_plane colours h w reference t ≡ ground_of colours h w reference t
  unfolding ground_plane
  found-plane e = rw e

  pub absent-plane : is_found colours h w reference t ≡ false → ground_plane colours h w reference t ≡ table (λ (i : ℕ). 0) 0 (h * w)
  unfolding ground_plane
  absent-plane e = rw e

-- ---- masks that are full

zero-off : (m : List ℕ) (i : ℕ) → get_or m i 0 ≡ 0 → not (is_on m i) ≡ true
unfolding is_on on
zero-off m i e = rw e

-- zeros turned over are all on
pub zeros-turned : (m : List ℕ) (n : ℕ) → m ≡ table (λ (i : ℕ). 0) 0 n → complement_of m ≡ mask_of n (λ (i : ℕ). true)
unfolding complement_of
zeros-turned m n e =
    let l : length m ≡ n = ap length e ∙ table-length (λ (i : ℕ). 0) 0 n in
    ap (λ (k : ℕ). mask_of k (λ (i : ℕ). not (is_on m i))) l
    ∙ mask-same n (λ (i : ℕ). not (is_on m i)) (λ (i : ℕ). true)
    (λ i g. zero-off m i (ap (λ (q : List ℕ). get_or q i 0) e ∙ table_at (λ (k : ℕ). 0) n i 0 g))

-- a mask of which no pixel is off is full
full-mask : (p : ℕ → Bool) (n : ℕ) → some_off (mask_of n p) n ≡ false → mask_of n (λ (i : ℕ). true) ≡ mask_of n p
unfolding some_off
full-mask p n e =
    mask-same n (λ (i : ℕ). true) p
    (λ i g. on-so (p i) (ap not (sym (mask-on n p i g)) ∙ none_found (λ (k : ℕ). not (is_on (mask_of n p) k)) n e i g))
  where
    on-so : (t : Bool) → not t ≡ false → true ≡ t
    on-so true z = refl
    on-so false z = not-both true refl z

-- ---- whether a ground is sought

-- the mask after the threshold t of the settings
pub by-alpha : (alpha : List ℕ) (n : ℕ) (s : Settings) (t : ℤ) (mask : List ℕ) → length alpha ≡ n → t ≡ s.alpha_threshold
    → mask ≡ mask_of (length alpha) (λ (i : ℕ). on_of (get_or alpha i 0) t) → mask ≡ alpha_mask alpha n s
unfolding alpha_mask
by-alpha alpha n s t mask l q e = e ∙ rw (l, q)

-- asked for by the settings, and no pixel of the mask by alpha is off
pub sought-is : (alpha : List ℕ) (n : ℕ) (s : Settings) (mask : List ℕ) (off : Bool) → off ≡ some_off mask (length mask) → length mask ≡ n
    → mask ≡ alpha_mask alpha n s → s.key_bg && not off ≡ is_sought alpha n s
unfolding is_sought
sought-is alpha n s mask off e l m = rw (e, l, m)

module _ (colours : List Float) (alpha : List ℕ) (h w : ℕ) (reference : Rgb) (s : Settings) where
  abbrev found : Bool
  found = is_found colours h w reference s.key_bg_tolerance

  -- the mask by alpha, where it is full
  full : is_sought alpha (h * w) s ≡ true → mask_of (h * w) (λ (i : ℕ). true) ≡ alpha_mask alpha (h * w) s
  unfolding is_sought alpha_mask
  full e =
      let off = some_off (alpha_mask alpha (h * w) s) (h * w) in
      full-mask (λ (i : ℕ). on_of (get_or alpha i 0) s.alpha_threshold) (h * w) (not-true off (and_parts s.key_bg (not off) e).1)

  pub sought-flag : is_sought alpha (h * w) s ≡ true → found ≡ is_keyed colours alpha h w reference s
  unfolding is_keyed
  sought-flag e = rw e

  pub sought-mask : is_sought alpha (h * w) s ≡ true
      → keyed_plane colours h w reference s.key_bg_tolerance (passes_of s) ≡ cut_mask colours alpha h w reference s
  unfolding keyed_plane cut_mask is_keyed grown_ground
  sought-mask e = rw (full e, e)

  pub unsought-flag : is_sought alpha (h * w) s ≡ false → false ≡ is_keyed colours alpha h w reference s
  unfolding is_keyed
  unsought-flag e = rw e

  pub unsought-mask : is_sought alpha (h * w) s ≡ false → alpha_mask alpha (h * w) s ≡ cut_mask colours alpha h w reference s
  unfolding cut_mask is_keyed
  unsought-mask e = rw e
