-- What ground and cut ensured before a card's colour could be given, kept for R85.
-- Assumes nothing.
use Rattle.std.specs.Prelude.{ℕ, ◌*◌, ◌≡◌, List, [], ◌∷◌, ◌++◌, length, Float, Option, Result}
use Rattle.std.specs.Float.Ieee.Scale.{finite}
use Rattle.plane.specs.declared.answer.Refusal.{Refusal}
use Rattle.plane.specs.Refusal.{Test, refusal_of, after}
use Rattle.plane.specs.Search.{some_below}
use Rattle.plane.specs.Mask.{is_on}
use Rattle.colour.specs.declared.Settings.{Settings}
use Rattle.colour.specs.Colour.{colours_ok}
use Rattle.outline.specs.Border.{reference_of}
use Rattle.outline.specs.Ground.{ground_plane}
use Rattle.outline.specs.Cut.{Cut, alpha_mask, cut_of}
use Rattle.outline.specs.Refusal.{ground_lengths, cut_lengths}
use Rattle.outline.specs.Answer.{ground_for, outcome_for}
use Rattle.outline.specs.Calls.{Buffers, HeldIn}
use Rattle.colour.specs.declared.Rgb.{Rgb}
use Rattle.outline.specs.declared.Outcome.{Outcome}

-- a picture was declined for its colours and for the tolerance (R85)
abbrev pub earlier_tests : List Float → Float → List Test
earlier_tests colours tolerance = (4, colours_ok colours) ∷ (5, finite tolerance) ∷ []

-- the refusals of ground and cut, without 11 (R85)
unfoldable pub earlier_ground_refusal : List Float → ℕ → ℕ → Float → List ℕ → List ℕ → ℕ
earlier_ground_refusal colours h w tolerance work out =
    refusal_of (ground_lengths h w (length colours) (length out) (length work) ++ earlier_tests colours tolerance)

unfoldable pub earlier_cut_refusal : List Float → List ℕ → ℕ → ℕ → Settings → Buffers → ℕ
earlier_cut_refusal colours alpha h w s b =
    refusal_of
    (cut_lengths h w (length colours) (length alpha) (length b.mask) (length b.weights)
    (length b.nearest) (length b.shallow) (length b.deep) (length b.marks)
    ++ (earlier_tests colours s.key_bg_tolerance ++ ((6, some_below (h * w) (is_on (alpha_mask alpha (h * w) s))) ∷ [])))

-- the cut, by the reference of the border (R85)
abbrev pub earlier_cut : List Float → List ℕ → ℕ → ℕ → Settings → Cut
earlier_cut colours alpha h w s = cut_of colours alpha h w (reference_of colours h w) s

-- what flat_background ensured (R85)
pub record EarlierGround (colours : List Float) (h w : ℕ) (tolerance : Float) (work out : List ℕ)
    (r : Result (Option Rgb) Refusal) (work' out' : List ℕ) : Type 0 where
  pub answer : r ≡ ground_for (earlier_ground_refusal colours h w tolerance work out) colours h w (reference_of colours h w) tolerance
  pub out_is : out' ≡ after (earlier_ground_refusal colours h w tolerance work out)
      (ground_plane colours h w (reference_of colours h w) tolerance) out
  pub kept : (earlier_ground_refusal colours h w tolerance work out ≡ 0 → ⊥) → work' ≡ work

-- what subject ensured (R85)
pub record EarlierCalled (colours : List Float) (alpha : List ℕ) (h w : ℕ) (s : Settings) (b : Buffers)
    (r : Result Outcome Refusal) (b' : Buffers) : Type 0 where
  pub answer : r ≡ outcome_for (earlier_cut_refusal colours alpha h w s b) (earlier_cut colours alpha h w s)
  pub mask_is : b'.mask ≡ after (earlier_cut_refusal colours alpha h w s b) (earlier_cut colours alpha h w s).mask b.mask
  pub weights_is : b'.weights ≡ after (earlier_cut_refusal colours alpha h w s b) (earlier_cut colours alpha h w s).weights b.weights
  pub kept : (earlier_cut_refusal colours alpha h w s b ≡ 0 → ⊥) → b' ≡ b
  pub held : HeldIn colours s
