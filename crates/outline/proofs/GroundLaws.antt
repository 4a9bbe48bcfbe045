-- Laws of the ground, over the definitions alone: it is the least set of close pixels that has every close border pixel and is closed
-- under 4-steps over close pixels.
-- Assumes nothing.
use mathlib.Core.Path.{◌≡◌, sym, ◌∙◌}
use mathlib.Core.Bool.{Bool, true, ◌&&◌}
use mathlib.Core.List.{List}
use Prim.Native.Nat.{ℕ, ◌*◌, ◌<◌}
use native.Mathlib.Omega.{arith}
use lib.Dec.{eqb}
use lib.ListN.{length}
use lib.Ieee.{Float}
use borrow.Author.Tests.{eqb-true, eq-eqb}
use Rattle.plane.specs.Search.{some_below}
use Rattle.plane.proofs.Search.{some-found, some_is}
use Rattle.std.proofs.lemmas.Bool.{and_from, and_parts}
use Rattle.plane.specs.Mask.{is_on, mask_of}
use Rattle.labels.specs.Labels.{beside, Joined, same, onward, first_pixel}
use Rattle.labels.proofs.Joined.{start-on, end_on, spreads}
use Rattle.labels.proofs.Firsts.{first_same, same_first}
use Rattle.squares.proofs.Laws.{same_test}
use Rattle.colour.specs.declared.Rgb.{Rgb}
use Rattle.outline.specs.Border.{border_list, on_border}
use Rattle.outline.specs.Ground.{is_close, close_plane, is_ground, ground_from, ground_of, found_from}
use Rattle.outline.specs.Growth.{near_ground}
use Rattle.plane.proofs.Mask.{mask-length, mask-on, mask-inside, mask-holds, mask-same, on-inside}
use Rattle.outline.proofs.Masks.{near-is, within-self, within-sum, nigh-beside}
use Rattle.outline.proofs.Borders.{border-inside, count-alike}

-- a border pixel from which 4-steps over close pixels lead to pixel i
abbrev pub Source : List ℕ → ℕ → ℕ → ℕ → Type 0
Source close h w i = (j : ℕ) × (j < h * w) × (on_border h w j ≡ true) × (Joined close w j i)

module _ (close : List ℕ) (h w : ℕ) where
  abbrev ground : ℕ → Bool
  ground = is_on (ground_from close h w)

  pub ground-on : (i : ℕ) → i < h * w → ground i ≡ is_ground close h w i
  unfolding ground_from mask_of
  ground-on = mask-on (h * w) (is_ground close h w)

  pub ground-inside : (i : ℕ) → is_on (ground_from close h w) i ≡ true → i < h * w
  unfolding ground_from mask_of
  ground-inside = mask-inside (h * w) (is_ground close h w)

  ground-holds : (i : ℕ) → is_on (ground_from close h w) i ≡ true → is_ground close h w i ≡ true
  unfolding ground_from mask_of
  ground-holds = mask-holds (h * w) (is_ground close h w)

  -- the ground is close
  pub ground-close : (i : ℕ) → is_on (ground_from close h w) i ≡ true → is_on close i ≡ true
  unfolding is_ground
  ground-close i e = (and_parts (is_on close i) _ (ground-holds i e)).0

  -- whether pixel j is a close border pixel of the part of pixel i
  abbrev meets : ℕ → ℕ → Bool
  meets i j = on_border h w j && is_on close j && eqb (first_pixel close h w j) (first_pixel close h w i)

  module _ (fits : length close ≡ h * w) where
    -- a ground pixel is joined to a close border pixel,
    pub ground-joined : (i : ℕ) → ground i ≡ true → Source close h w i
    unfolding is_ground
    ground-joined i e =
        let z = and_parts (is_on close i) (some_below (h * w) (meets i)) (ground-holds i e) in
        let f = some-found (meets i) (h * w) z.1 in
        let a = and_parts (on_border h w f.0 && is_on close f.0) (eqb (first_pixel close h w f.0) (first_pixel close h w i)) f.2 in
        let b = and_parts (on_border h w f.0) (is_on close f.0) a.0 in
        (f.0, f.1, b.0, same_first close h w fits f.0 i b.1 z.0 (eqb-true _ _ a.1))

    -- and what is joined to a close border pixel is ground
    pub joined-ground : (j i : ℕ) → on_border h w j ≡ true → j < h * w → Joined close w j i → is_on (ground_from close h w) i ≡ true
    unfolding is_ground
    joined-ground j i b l r =
        let lit : is_on close i ≡ true = end_on r in
        ground-on i (omega (arith, on-inside close i lit))
        ∙ and_from (is_on close i) (some_below (h * w) (meets i)) lit
        (some_is (meets i) (h * w) j l
        (and_from (on_border h w j && is_on close j) (eqb (first_pixel close h w j) (first_pixel close h w i))
        (and_from (on_border h w j) (is_on close j) b (start-on r)) (eq-eqb _ _ (first_same close h w fits r))))

    -- it has every close border pixel,
    pub ground-border : (i : ℕ) → i < h * w → on_border h w i ≡ true → is_on close i ≡ true → is_on (ground_from close h w) i ≡ true
    ground-border i l b e = joined-ground i i b l (same e)

    -- is closed under 4-steps over close pixels,
    pub ground-step : (i j : ℕ) → ground i ≡ true → beside w i j ≡ true → is_on close j ≡ true → ground j ≡ true
    ground-step i j e b c = let z = ground-joined i e in joined-ground z.0 j z.2 z.1 (onward z.3 b c)

    -- and has nothing else: what holds of every close border pixel and passes along every step over close pixels holds of the ground
    pub ground-least : (P : ℕ → Type 0) → ((i : ℕ) → i < h * w → on_border h w i ≡ true → is_on close i ≡ true → P i)
        → ((i j : ℕ) → P i → beside w i j ≡ true → is_on close j ≡ true → P j) → (i : ℕ) → is_on (ground_from close h w) i ≡ true → P i
    ground-least P b s i e = let z = ground-joined i e in spreads P s z.3 (b z.0 z.1 z.2 (start-on z.3))

    -- these laws determine it
    pub ground-is : (p : ℕ → Bool) → ((i : ℕ) → i < h * w → p i ≡ true → Source close h w i)
        → ((i : ℕ) → i < h * w → on_border h w i ≡ true → is_on close i ≡ true → p i ≡ true)
        → ((i j : ℕ) → p i ≡ true → beside w i j ≡ true → is_on close j ≡ true → p j ≡ true) → mask_of (h * w) p ≡ ground_from close h w
    unfolding ground_from mask_of
    ground-is p sound border step = mask-same (h * w) p (is_ground close h w) (λ i l. alike i l ∙ ground-on i l)
      where
        alike : (i : ℕ) → i < h * w → p i ≡ ground i
        alike i l =
            same_test (p i) (ground i)
            (λ e. (let z = sound i l e in joined-ground z.0 i z.2 z.1 z.3))
            (ground-least (λ (k : ℕ). p k ≡ true) border step i)

-- ---- the ground of a picture

module _ (colours : List Float) (h w : ℕ) (reference : Rgb) (tolerance : Float) where
  -- whether pixel i of the picture is close
  abbrev pub close_at : ℕ → Bool
  close_at = is_close colours reference tolerance

  abbrev closes : List ℕ
  closes = close_plane colours h w reference tolerance

  -- and is ground
  abbrev ground_at : ℕ → Bool
  ground_at = is_on (ground_of colours h w reference tolerance)

  pub close-length : length closes ≡ h * w
  unfolding close_plane mask_of
  close-length = mask-length (h * w) close_at

  -- a pixel of the plane of close pixels is on exactly when it is close
  pub close-on : (i : ℕ) → i < h * w → is_on closes i ≡ close_at i
  unfolding close_plane mask_of
  close-on = mask-on (h * w) close_at

  -- the ground is close,
  pub picture-close : (i : ℕ) → ground_at i ≡ true → close_at i ≡ true
  unfolding ground_of
  picture-close i e = sym (close-on i (ground-inside closes h w i e)) ∙ ground-close closes h w i e

  -- joined to a close border pixel by 4-steps over close pixels,
  pub picture-joined : (i : ℕ) → ground_at i ≡ true → Source closes h w i
  unfolding ground_of
  picture-joined i e = ground-joined closes h w close-length i e

  -- has every close border pixel,
  pub picture-border : (i : ℕ) → i < h * w → on_border h w i ≡ true → close_at i ≡ true → ground_at i ≡ true
  unfolding ground_of
  picture-border i l b e = ground-border closes h w close-length i l b (close-on i l ∙ e)

  -- and is closed under 4-steps over close pixels
  pub picture-step : (i j : ℕ) → ground_at i ≡ true → beside w i j ≡ true → j < h * w → close_at j ≡ true → ground_at j ≡ true
  unfolding ground_of
  picture-step i j e b l c = ground-step closes h w close-length i j e b (close-on j l ∙ c)

-- ---- two planes of close pixels

-- planes that are alike on the border and within 1 of the first one's ground have one ground
module _ (a b : List ℕ) (h w : ℕ) (tall : 0 < h) (wide : 0 < w) (long : length a ≡ h * w) (long' : length b ≡ h * w)
    (border : (i : ℕ) → i < h * w → on_border h w i ≡ true → is_on a i ≡ is_on b i)
    (about : (i : ℕ) → i < h * w → near_ground (ground_from a h w) h w 1 i ≡ true → is_on a i ≡ is_on b i) where
  forth : (i : ℕ) → ground a h w i ≡ true → ground b h w i ≡ true
  forth i e =
      (ground-least a h w long (λ (k : ℕ). (ground a h w k ≡ true) × (ground b h w k ≡ true))
      (λ k l o c. (ground-border a h w long k l o c, ground-border b h w long' k l o (sym (border k l o) ∙ c)))
      (λ k j z o c. (
      let g = ground-step a h w long k j z.0 o c in
      let l = ground-inside a h w j g in
      let n = near-is wide (within-self l g) in
      (g, ground-step b h w long' k j z.1 o (sym (about j l n) ∙ c))))
      i e).1

  back : (i : ℕ) → ground b h w i ≡ true → ground a h w i ≡ true
  back i e =
      ground-least b h w long' (λ (k : ℕ). ground a h w k ≡ true)
      (λ k l o c. ground-border a h w long k l o (border k l o ∙ c))
      (λ k j z o c. (
      let l : j < h * w = omega (arith, on-inside b j c) in
      let n = near-is wide (within-sum {b = 0} (nigh-beside w k j o) (within-self (ground-inside a h w k z) z)) in
      ground-step a h w long k j z o (about j l n ∙ c)))
      i e

  pub ground-same : ground_from a h w ≡ ground_from b h w
  unfolding ground_from mask_of
  ground-same =
      mask-same (h * w) (is_ground a h w) (is_ground b h w)
      (λ i l. sym (ground-on a h w i l) ∙ same_test (ground a h w i) (ground b h w i) (forth i) (back i) ∙ ground-on b h w i l)

  -- and are found alike
  pub found-same : found_from a h w ≡ found_from b h w
  unfolding found_from on_border
  found-same = rw (ground-same, count-alike a b (border_list h w) (λ i e. border i (border-inside h w tall wide i e) e))
