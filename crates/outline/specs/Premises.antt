-- The theorem about two pictures: what it asks of two calls of the cut, and what it says of them.
-- Assumes nothing.
use Rattle.std.specs.Prelude.{◌≡◌, Bool, true, ◌&&◌, ◌||◌, List, ℕ, ◌+◌, ◌*◌, ◌<◌, length, Float}
use Rattle.std.specs.Float.Ieee.{eq, is_nan}
use Rattle.colour.specs.declared.Settings.{Settings}
use Rattle.colour.specs.Colour.{colours_ok, same_colour}
use Rattle.colour.specs.Settings.{passes_of}
use Rattle.card.specs.Card.{Card}
use Rattle.outline.specs.Border.{on_border, colour_at, reference_on}
use Rattle.outline.specs.Ground.{ground_of}
use Rattle.outline.specs.Growth.{near_ground}
use Rattle.outline.specs.Calls.{Buffers, refusal_in, cut_in, HeldIn}

-- two tolerances are equal (R65): as numbers, where -0 equals 0, or both are no number
unfoldable pub same_tolerance : Float → Float → Bool
same_tolerance t u = eq t u || (is_nan t && is_nan u)

-- settings are equal (R65): each field is, a negative p read as 0
pub record SameSettings (s t : Settings) : Type 0 where
  pub threshold : s.alpha_threshold ≡ t.alpha_threshold
  pub keying : s.key_bg ≡ t.key_bg
  pub passes : passes_of s ≡ passes_of t
  pub tolerance : same_tolerance s.key_bg_tolerance t.key_bg_tolerance ≡ true
  pub cropping : s.crop_to_alpha ≡ t.crop_to_alpha

-- two pictures agree at pixel i (R65): its three colours are equal numbers
abbrev pub AgreeAt : List Float → List Float → ℕ → Type 0
AgreeAt one two i = same_colour (colour_at one i) (colour_at two i) ≡ true

-- how far from the ground a cut of p passes looks: p + 4 rows and columns (R66)
abbrev pub reach_of : Settings → ℕ
reach_of s = passes_of s + 4

-- two pictures agree (R66) on the border, and on every pixel within p + 4 rows and columns of the first picture's ground, found or not,
-- sought or not; the ground is the one that the card's reference gives
pub record Agree (one two : List Float) (h w : ℕ) (card : Card) (s : Settings) : Type 0 where
  pub border : (i : ℕ) → i < h * w → on_border h w i ≡ true → AgreeAt one two i
  pub around : (i : ℕ) → i < h * w
      → near_ground (ground_of one h w (reference_on card one h w) s.key_bg_tolerance) h w (reach_of s) i ≡ true → AgreeAt one two i

-- two calls' buffers are of one length each, whatever they hold (R66)
pub record SameLengths (b c : Buffers) : Type 0 where
  pub mask : length b.mask ≡ length c.mask
  pub weights : length b.weights ≡ length c.weights
  pub nearest : length b.nearest ≡ length c.nearest
  pub shallow : length b.shallow ≡ length c.shallow
  pub deep : length b.deep ≡ length c.deep
  pub marks : length b.marks ≡ length c.marks

-- two calls of the cut: on pictures of one size, h rows and w columns, with one alpha, with equal settings, and with each buffer as long
-- in one call as in the other (R66)
pub record TwoCalls (one two : List Float) (alpha : List ℕ) (h w : ℕ) (card card' : Card) (s t : Settings) (b c : Buffers) : Type 0 where
  pub sizes : length one ≡ length two
  -- no colour is given to either; or texts are, and they name one colour, or neither names one (R84)
  pub cards : card ≡ card'
  pub settings : SameSettings s t
  pub lengths : SameLengths b c
  -- all colours lent are from 0 to 1
  pub in_range : colours_ok one ≡ true
  pub in_range' : colours_ok two ≡ true
  -- the pictures agree on the border and about the first picture's ground; where the first call is declined, for whatever reason, they
  -- need not agree anywhere
  pub agree : refusal_in one alpha h w card s b ≡ 0 → Agree one two h w card s

-- both calls are declined with the same number, or both are accepted and make the same cut. That what is lent is held as binary64 numbers
-- is no premise of the theorem for calls: every call ensures it (R66)
pub record TwoPictures (one two : List Float) (alpha : List ℕ) (h w : ℕ) (card card' : Card) (s t : Settings) (b c : Buffers) : Type 0 where
  pub refusals_alike : refusal_in one alpha h w card s b ≡ refusal_in two alpha h w card' t c
  pub cuts_alike : refusal_in one alpha h w card s b ≡ 0 → HeldIn one s → HeldIn two t
      → cut_in one alpha h w card s ≡ cut_in two alpha h w card' t
