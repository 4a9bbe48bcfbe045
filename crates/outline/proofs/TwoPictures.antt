-- The theorem about two pictures: what a picture shows away from its border and its ground does not move the outline. The statement is the
-- last in this file.
-- Assumes nothing.
use mathlib.Core.Path.{◌≡◌, refl, sym, ap, ◌∙◌}
use mathlib.Core.Bool.{true, false, ◌&&◌}
use mathlib.Core.List.{List}
use mathlib.Core.Logic.{⊎_elim}
use Prim.Native.Nat.{ℕ, ◌+◌, ◌*◌, ◌≤◌, ◌<◌}
use native.Mathlib.Omega.{arith}
use lib.Dec.{T}
use lib.ListN.{length}
use lib.Ieee.{Float, nan, inf, fin, binary64, eq, is_nan, fits}
use lib.Ieee.Scale.{finite}
use Rattle.plane.proofs.Search.{not-both}
use Rattle.std.proofs.lemmas.Bool.{and_parts, or_cases}
use Rattle.colour.specs.declared.Rgb.{Rgb}
use Rattle.colour.specs.declared.Settings.{Settings}
use Rattle.colour.specs.Number.{Binary64}
use Rattle.colour.specs.Settings.{passes_of}
use Rattle.card.specs.Card.{Card}
use Rattle.colour.proofs.Range.{is}
use Rattle.colour.proofs.Zero.{plus0, Alike, eq-alike}
use Rattle.colour.proofs.Same.{Held, same-colour}
use Rattle.outline.specs.Border.{on_border, channel_at, colour_at, reference_on}
use Rattle.outline.specs.Ground.{ground_of}
use Rattle.outline.specs.Growth.{near_ground, growth_of}
use Rattle.outline.specs.Cut.{alpha_mask, is_sought, is_keyed, grown_ground, cut_mask, cut_of}
use Rattle.outline.specs.Refusal.{work_tests, cut_lengths, picture_tests, cut_contents, cut_refusal}
use Rattle.outline.specs.Calls.{Buffers, refusal_in, cut_in, HeldIn}
use Rattle.outline.specs.Premises.{same_tolerance, AgreeAt, TwoCalls, TwoPictures}
use Rattle.outline.proofs.Masks.{near-found, near-is, within_more}
use Rattle.outline.proofs.Borders.{border-inside, reference-on-same}
use Rattle.outline.proofs.CutLaws.{Taken, taken}
use Rattle.outline.proofs.Pictures.{Same, grounds, found_alike, growths}

-- ---- tolerances

no_number : (x : Float) → is_nan x ≡ true → x ≡ nan
unfolding is_nan
no_number nan q = refl
no_number (inf s) q = absurd (is (is_nan (inf s)) q)
no_number (fin s m d) q = absurd (is (is_nan (fin s m d)) q)

-- equal tolerances are equal as numbers, or both no number
same_cases : {C : Type 0} (t u : Float) → (eq t u ≡ true → C) → (t ≡ u → C) → same_tolerance t u ≡ true → C
unfolding same_tolerance
same_cases {C} t u f g e =
    ⊎_elim {C = C} f
    (λ (q : is_nan t && is_nan u ≡ true). (let z = and_parts _ _ q in g (no_number t z.0 ∙ sym (no_number u z.1))))
    (or_cases (eq t u) (is_nan t && is_nan u) e)

-- held as binary64 numbers they are the same number, up to the sign of a zero
tolerance-alike : (t u : Float) → T (fits binary64 t) → T (fits binary64 u) → same_tolerance t u ≡ true → Alike t u
tolerance-alike t u a b = same_cases t u (λ q. eq-alike binary64 t u a b (is (eq t u) q)) (ap plus0)

-- equal tolerances are finite alike
eq-finite : (t u : Float) → eq t u ≡ true → finite t ≡ finite u
unfolding eq
eq-finite nan u e = not-both false e refl
eq-finite (inf s) nan e = not-both false e refl
eq-finite (inf s) (inf r) e = refl
eq-finite (inf s) (fin r n d) e = not-both false e refl
eq-finite (fin s m d) nan e = not-both false e refl
eq-finite (fin s m d) (inf r) e = not-both false e refl
eq-finite (fin s m d) (fin r n k) e = refl

finite-alike : (t u : Float) → same_tolerance t u ≡ true → finite t ≡ finite u
finite-alike t u = same_cases t u (eq-finite t u) (ap finite)

-- ---- agreeing pictures have the same colours, as numbers

colour-held : (colours : List Float) (n i : ℕ) → Binary64 colours → length colours ≡ 3 * n → i < n → Held (colour_at colours i)
unfolding colour_at channel_at
colour-held colours n i a e l = record { r = a (3 * i + 0) (omega arith); g = a (3 * i + 1) (omega arith); b = a (3 * i + 2) (omega arith) }

-- ---- the cut

module _ (one two : List Float) (alpha : List ℕ) (h w : ℕ) (card card' : Card) (s t : Settings) (b c : Buffers)
    (calls : TwoCalls one two alpha h w card card' s t b c) where
  abbrev tol : Float
  tol = s.key_bg_tolerance

  abbrev tol' : Float
  tol' = t.key_bg_tolerance

  abbrev ref : Rgb
  ref = reference_on card one h w

  alphas : alpha_mask alpha (h * w) s ≡ alpha_mask alpha (h * w) t
  unfolding alpha_mask
  alphas = rw calls.settings.threshold

  -- the numbers are equal, whatever the pictures show
  refusals : refusal_in one alpha h w card s b ≡ refusal_in two alpha h w card' t c
  unfolding cut_refusal cut_lengths work_tests picture_tests cut_contents
  refusals =
      let l = calls.lengths in
      rw (
        calls.sizes,
        calls.cards,
        calls.in_range,
        calls.in_range',
        finite-alike tol tol' calls.settings.tolerance,
        alphas,
        l.mask,
        l.weights,
        l.nearest,
        l.shallow,
        l.deep,
        l.marks,
      )

  -- where the first call is accepted, and both are lent binary64 numbers, as every accepted call is
  module _ (good : refusal_in one alpha h w card s b ≡ 0) (held : HeldIn one s) (held' : HeldIn two t) where
    known : Taken one alpha h w s b
    known = taken one alpha h w card s b good

    tall : 0 < h
    tall = known.sides.some_rows

    wide : 0 < w
    wide = known.sides.some_columns

    tolerances : Alike tol tol'
    tolerances = tolerance-alike tol tol' held.tolerance held'.tolerance calls.settings.tolerance

    -- where the pictures agree, their colours are the same
    agreed : (i : ℕ) → i < h * w → AgreeAt one two i → Same one two h w tall wide i
    agreed i l e =
        same-colour (colour_at one i) (colour_at two i) (colour-held one (h * w) i held.picture known.colours_long l)
        (colour-held two (h * w) i held'.picture (sym calls.sizes ∙ known.colours_long) l) e

    border : (i : ℕ) → on_border h w i ≡ true → Same one two h w tall wide i
    border i e = let l = border-inside h w tall wide i e in agreed i l ((calls.agree good).border i l e)

    around : (k : ℕ) → k ≤ passes_of s + 4 → (i : ℕ) → i < h * w → near_ground (ground_of one h w ref tol) h w k i ≡ true
        → Same one two h w tall wide i
    around k m i l e = agreed i l ((calls.agree good).around i l (near-is wide (within_more (omega arith) (near-found e))))

    keyed : is_keyed one alpha h w ref s ≡ is_keyed two alpha h w ref t
    unfolding is_keyed is_sought
    keyed = rw (alphas, calls.settings.keying, found_alike one two h w tall wide ref tol tol' tolerances border (around 1 (omega arith)))

    grown : grown_ground one h w ref s ≡ grown_ground two h w ref t
    unfolding grown_ground
    grown =
        growths one two h w tall wide ref (passes_of s) (ground_of one h w ref tol) (around (passes_of s + 4) (omega arith))
        ∙ ap (λ (p : ℕ). growth_of two ref h w p (ground_of one h w ref tol)) calls.settings.passes
        ∙ ap (growth_of two ref h w (passes_of t)) (grounds one two h w tall wide ref tol tol' tolerances border (around 1 (omega arith)))

    masks : cut_mask one alpha h w ref s ≡ cut_mask two alpha h w ref t
    unfolding cut_mask
    masks = rw (keyed, grown, alphas)

    cuts : cut_in one alpha h w card s ≡ cut_in two alpha h w card' t
    unfolding cut_of
    cuts = rw (← calls.cards, ← reference-on-same card one two h w border, masks, keyed, calls.settings.cropping)

-- ---- the theorem

-- Demand 3. Take any two calls of the cut on pictures of one size (one h, one w), with equal alpha (one list), equal settings of p passes
-- (whatever p is; a negative one read as 0), on cards of one kind (no colour given, or one colour), and each buffer as long in one call as in the other, whatever the buffers held before.
-- Let all colours lent be from 0 to 1, and let the two pictures agree on the border and on every pixel within p + 4 rows and columns of the
-- first picture's ground, found or not; where the first call is declined they need not agree anywhere. Then, whatever such colours either
-- picture has elsewhere, both calls are declined with the same number, or both are accepted and make the same cut: the same mask, the same
-- weights bit for bit, the same keyed flag and the same four crop numbers.
-- That the numbers lent are binary64 numbers (HeldIn) is what every accepted call ensures; the theorem for calls is keying's.
pub two-pictures : (one two : List Float) (alpha : List ℕ) (h w : ℕ) (card card' : Card) (s t : Settings) (b c : Buffers)
    → TwoCalls one two alpha h w card card' s t b c → TwoPictures one two alpha h w card card' s t b c
two-pictures one two alpha h w card card' s t b c calls =
    record { refusals_alike = refusals one two alpha h w card card' s t b c calls; cuts_alike = cuts one two alpha h w card card' s t b c calls }
