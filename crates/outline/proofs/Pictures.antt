-- Two pictures whose colours are the same, as numbers, on the border and about the first picture's ground: the same reference, the same
-- ground, found alike, and the same growth.
-- Assumes nothing.
use mathlib.Core.Path.{◌≡◌, refl, sym, ap, ◌∙◌}
use mathlib.Core.Bool.{Bool, true, ◌||◌}
use mathlib.Core.List.{List}
use Prim.Native.Nat.{ℕ, zero, suc, ◌+◌, ◌*◌, ◌≤◌, ◌<◌}
use native.Mathlib.Omega.{arith}
use lib.Ieee.{Float}
use Rattle.plane.specs.Search.{some_below}
use Rattle.plane.proofs.Search.{some_same, and_same}
use Rattle.plane.specs.Mask.{is_on, mask_of}
use Rattle.colour.specs.declared.Rgb.{Rgb}
use Rattle.colour.specs.Colour.{difference_of}
use Rattle.colour.specs.Join.{joins_of}
use Rattle.colour.proofs.Zero.{Alike}
use Rattle.colour.proofs.Same.{SameColour, same_refl, close-same, joins-same}
use Rattle.outline.specs.Border.{on_border, colour_at}
use Rattle.outline.specs.Ground.{is_close, close_plane, ground_of, is_found}
use Rattle.outline.specs.Growth.{near_ground, is_edge, is_shallow, is_deep, body_from, joins_from, is_joining, pass_of, growth_of}
use Rattle.plane.proofs.Mask.{mask-same}
use Rattle.outline.proofs.Masks.{near-found, near-is, Within, within_more, within-within}
use Rattle.outline.proofs.GroundLaws.{close-length, close-on, ground-same, found-same}
use Rattle.outline.proofs.GrowthLaws.{pass-near}
use Rattle.outline.proofs.Body.{PixelWithin, edge-within, body_near}

module _ (one two : List Float) (h w : ℕ) (tall : 0 < h) (wide : 0 < w) where
  -- the colours of pixel i are the same, up to the sign of a zero
  abbrev pub Same : ℕ → Type 0
  Same i = SameColour (colour_at one i) (colour_at two i)

  -- they are within k of a background
  abbrev pub SameNear : List ℕ → ℕ → Type 0
  SameNear back k = (i : ℕ) → i < h * w → near_ground back h w k i ≡ true → Same i

  -- 1. equal borders give equal references: that is reference-same
  -- 2. for one reference: equal close tests where the colours are the same
  module _ (r : Rgb) (t u : Float) (tolerances : Alike t u) (border : (i : ℕ) → on_border h w i ≡ true → Same i)
      (about : SameNear (ground_of one h w r t) 1) where
    abbrev close : List ℕ
    close = close_plane one h w r t

    abbrev close' : List ℕ
    close' = close_plane two h w r u

    close-alike : (i : ℕ) → i < h * w → Same i → is_on close i ≡ is_on close' i
    unfolding is_close
    close-alike i l e =
        close-on one h w r t i l
        ∙ close-same (colour_at one i) (colour_at two i) r r e (same_refl r) t u tolerances
        ∙ sym (close-on two h w r u i l)

    -- equal grounds, found alike
    pub grounds : ground_of one h w r t ≡ ground_of two h w r u
    unfolding ground_of
    grounds =
        ground-same close close' h w tall wide (close-length one h w r t) (close-length two h w r u)
        (λ i l e. close-alike i l (border i e)) (λ i l e. close-alike i l (about i l e))

    pub found_alike : is_found one h w r t ≡ is_found two h w r u
    unfolding is_found ground_of
    found_alike =
        found-same close close' h w tall wide (close-length one h w r t) (close-length two h w r u)
        (λ i l e. close-alike i l (border i e)) (λ i l e. close-alike i l (about i l e))

  -- 3. the same pixels join where the colours are the same within 5 of the background
  module _ (r : Rgb) (back : List ℕ) (near : SameNear back 5) where
    within-five : (k i : ℕ) → k ≤ 5 → i < h * w → Within back h w k i → Same i
    within-five k i m l s = near i l (near-is wide (within_more m s))

    abbrev body : ℕ → ℕ
    body = body_from (mask_of (h * w) (is_deep back h w)) (mask_of (h * w) (is_shallow back h w)) h w

    -- whether pixel i of a picture is less than half as far from the reference as its body pixel
    abbrev joins_in : List Float → ℕ → Bool
    joins_in colours i = joins_of (difference_of (colour_at colours (body i)) r) (difference_of (colour_at colours i) r)

    joins-alike : (i : ℕ) → i < h * w → some_below (h * w) (is_shallow back h w) ≡ true → is_edge back h w i ≡ true
        → joins_in one i ≡ joins_in two i
    joins-alike i l s e =
        let b : PixelWithin back h w 5 (body i) = body_near back h w wide i l e s in
        let edge = within-five 1 i (omega arith) l (edge-within back h w wide i l e) in
        joins-same (colour_at one i) (colour_at two i) r r (colour_at one (body i)) (colour_at two (body i)) edge (same_refl r)
        (within-five 5 (body i) (omega arith) b.inside b.near)

    joining-alike : (i : ℕ) → i < h * w → is_joining one r back h w i ≡ is_joining two r back h w i
    unfolding is_joining joins_from
    joining-alike i l = and_same _ _ _ _ refl (λ s. and_same _ _ _ _ refl (λ e. joins-alike i l s e))

    passes-alike : pass_of one r back h w ≡ pass_of two r back h w
    unfolding pass_of
    passes-alike =
        mask-same (h * w) (λ (i : ℕ). is_on back i || is_joining one r back h w i) (λ (i : ℕ). is_on back i || is_joining two r back h w i)
        (λ i l. ap (λ (b : Bool). is_on back i || b) (joining-alike i l))

  -- 4. growth by induction on the passes: p passes read colours within p + 4 of the first background only
  pub growths : (r : Rgb) (p : ℕ) (back : List ℕ) → SameNear back (p + 4) → growth_of one r h w p back ≡ growth_of two r h w p back
  unfolding growth_of
  growths r zero back near = refl
  growths r (suc p) back near =
      let five : SameNear back 5 = λ i l e. near i l (near-is wide (within_more (omega arith) (near-found e))) in
      let rest : SameNear (pass_of one r back h w) (p + 4) =
      λ i l e. near i l (near-is wide (within_more (omega arith) (within-within (pass-near one r h w back) (near-found e)))) in
      rw (
        some_same (is_joining one r back h w) (is_joining two r back h w) (h * w) (joining-alike r back five),
        growths r p (pass_of one r back h w) rest,
        passes-alike r back five,
      )
