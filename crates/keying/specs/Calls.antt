-- What each public call ensures: its answer, every output, and what a refusal leaves in the buffers. A name with ' is what a buffer holds
-- afterwards.
-- Assumes nothing.
use Rattle.std.specs.Prelude.{ℕ, ◌≡◌, List, length, ℤ, Float, Option, Some, None, Result}
use Rattle.std.specs.Borrow.{Bor}
use Rattle.plane.specs.declared.answer.Refusal.{Refusal}
use Rattle.plane.specs.Refusal.{after, answer_for, done_for, refusal_of_answer}
use Rattle.colour.specs.declared.Rgb.{Rgb}
use Rattle.colour.specs.declared.Settings.{Settings}
use Rattle.colour.specs.Settings.{at_least_zero}
use Rattle.card.specs.Card.{Card, Border, card_of}
use Rattle.outline.specs.Border.{reference_on}
use Rattle.outline.specs.Ground.{ground_plane}
use Rattle.outline.specs.Growth.{growth_of}
use Rattle.outline.specs.Refusal.{ground_refusal, growth_refusal}
use Rattle.outline.specs.Answer.{ground_for, outcome_for}
use Rattle.outline.specs.Calls.{Buffers, refusal_in, cut_in, HeldIn}
use Rattle.outline.specs.declared.Outcome.{Outcome}
use Rattle.next_pass.specs.NextPass.{next_background, joins_in}

-- the card of a call that may be given a text (R82): the one whose colour the text names, and without a text one of no known colour
abbrev pub card_in : Option (Bor (List ℕ)) → Card
card_in None = Border
card_in (Some text) = card_of text.now

-- ---- flat_background

-- the refusal of a call with these buffers, 0 where it is accepted (R55, R82)
abbrev pub ground_refusal_in : List Float → ℕ → ℕ → Card → Float → List ℕ → List ℕ → ℕ
ground_refusal_in colours h w card tolerance work out = ground_refusal colours h w card tolerance (length out) (length work)

-- the ground of a picture on a card, by the reference of that card (R22, R83)
pub record GroundCalled (colours : List Float) (h w : ℕ) (card : Card) (tolerance : Float) (work out : List ℕ)
    (r : Result (Option Rgb) Refusal) (work' out' : List ℕ) : Type 0 where
  pub answer : r ≡ ground_for (ground_refusal_in colours h w card tolerance work out) colours h w (reference_on card colours h w) tolerance
  pub out_is : out' ≡ after (ground_refusal_in colours h w card tolerance work out)
      (ground_plane colours h w (reference_on card colours h w) tolerance) out
  pub kept : (ground_refusal_in colours h w card tolerance work out ≡ 0 → ⊥) → work' ≡ work

-- ---- unmix_fringe

-- the buffers that growth is lent: its output and four work buffers (R46)
pub record GrowthBuffers : Type 0 where
  pub out : List ℕ
  pub nearest : List ℕ
  pub shallow : List ℕ
  pub deep : List ℕ
  pub marks : List ℕ

-- these buffers, in that order (R46)
abbrev pub growth_buffers : List ℕ → List ℕ → List ℕ → List ℕ → List ℕ → GrowthBuffers
growth_buffers out nearest shallow deep marks = record { out = out; nearest = nearest; shallow = shallow; deep = deep; marks = marks }

-- the refusal of a call with these buffers (R56)
abbrev pub growth_refusal_in : List Float → List ℕ → ℕ → ℕ → Rgb → GrowthBuffers → ℕ
growth_refusal_in colours background h w reference b =
    growth_refusal colours (length background) h w reference (length b.out)
    (length b.nearest) (length b.shallow) (length b.deep) (length b.marks)

-- the background after at most p passes (R29)
pub record GrowthCalled (colours : List Float) (background : List ℕ) (h w : ℕ) (reference : Rgb) (p : ℤ) (b : GrowthBuffers)
    (r : Result Unit Refusal) (b' : GrowthBuffers) : Type 0 where
  pub answer : r ≡ done_for (growth_refusal_in colours background h w reference b)
  pub out_is : b'.out ≡ after (growth_refusal_in colours background h w reference b)
      (growth_of colours reference h w (at_least_zero p) background) b.out
  pub kept : (growth_refusal_in colours background h w reference b ≡ 0 → ⊥) → b' ≡ b

-- ---- next_pass

-- a look at the pass that comes after a background: the background after that pass, and the number of its joins (R89, R90)
pub record NextPassCalled (colours : List Float) (background : List ℕ) (h w : ℕ) (reference : Rgb) (b : GrowthBuffers)
    (r : Result ℕ Refusal) (colours' : List Float) (background' : List ℕ) (b' : GrowthBuffers) : Type 0 where
  pub answer : r ≡ answer_for (growth_refusal_in colours background h w reference b) (joins_in colours reference h w background)
  pub out_is : b'.out ≡ after (growth_refusal_in colours background h w reference b)
      (next_background colours reference h w background) b.out
  pub kept : (growth_refusal_in colours background h w reference b ≡ 0 → ⊥) → b' ≡ b
  -- what the call is lent to read stays as it was (R91)
  pub picture_kept : colours' ≡ colours
  pub background_kept : background' ≡ background

-- ---- subject

-- the buffers of a cut: its two outputs and four work buffers, in that order (R46)
abbrev pub cut_buffers : List ℕ → List Float → List ℕ → List ℕ → List ℕ → List ℕ → Buffers
cut_buffers mask weights nearest shallow deep marks =
    record { mask = mask; weights = weights; nearest = nearest; shallow = shallow; deep = deep; marks = marks }

-- a call of the cut on a card, with these buffers, has answered r and left these (R63)
pub record Called (colours : List Float) (alpha : List ℕ) (h w : ℕ) (card : Card) (s : Settings) (b : Buffers)
    (r : Result Outcome Refusal) (b' : Buffers) : Type 0 where
  pub answer : r ≡ outcome_for (refusal_in colours alpha h w card s b) (cut_in colours alpha h w card s)
  pub mask_is : b'.mask ≡ after (refusal_in colours alpha h w card s b) (cut_in colours alpha h w card s).mask b.mask
  pub weights_is : b'.weights ≡ after (refusal_in colours alpha h w card s b) (cut_in colours alpha h w card s).weights b.weights
  pub kept : (refusal_in colours alpha h w card s b ≡ 0 → ⊥) → b' ≡ b
  -- what is lent are binary64 numbers, as every f64 in memory is
  pub held : HeldIn colours s

-- two calls have one outline: the same answer, and, accepted, the same mask and the same weights bit for bit (R66)
pub record OneOutline (r q : Result Outcome Refusal) (b' c' : Buffers) : Type 0 where
  pub answers : r ≡ q
  pub masks : refusal_of_answer r ≡ 0 → b'.mask ≡ c'.mask
  pub weights : refusal_of_answer r ≡ 0 → b'.weights ≡ c'.weights
