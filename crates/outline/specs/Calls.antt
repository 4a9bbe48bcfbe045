-- What a call of the cut is lent, its refusal, and the cut that it makes.
-- Assumes nothing.
use Rattle.std.specs.Prelude.{ℕ, List, T, length, Float}
use Rattle.std.specs.Float.{binary64}
use Rattle.std.specs.Float.Ieee.{fits}
use Rattle.colour.specs.declared.Settings.{Settings}
use Rattle.colour.specs.Number.{Binary64}
use Rattle.card.specs.Card.{Card}
use Rattle.outline.specs.Border.{reference_on}
use Rattle.outline.specs.Cut.{Cut, cut_of}
use Rattle.outline.specs.Refusal.{cut_refusal}

-- the buffers that are lent to a call beside picture and settings: two outputs and four work buffers (R46)
pub record Buffers : Type 0 where
  pub mask : List ℕ
  pub weights : List Float
  pub nearest : List ℕ
  pub shallow : List ℕ
  pub deep : List ℕ
  pub marks : List ℕ

-- the refusal of the call, 0 where it is accepted (R57)
abbrev pub refusal_in : List Float → List ℕ → ℕ → ℕ → Card → Settings → Buffers → ℕ
refusal_in colours alpha h w card s b =
    cut_refusal colours alpha h w card s (length b.mask) (length b.weights)
    (length b.nearest) (length b.shallow) (length b.deep) (length b.marks)

-- the cut of a picture on a card, by the reference of that card (R30 to R36, R83)
abbrev pub cut_in : List Float → List ℕ → ℕ → ℕ → Card → Settings → Cut
cut_in colours alpha h w card s = cut_of colours alpha h w (reference_on card colours h w) s

-- what is lent to a call is held as binary64 numbers: the colours and the tolerance (R2, R30)
pub record HeldIn (colours : List Float) (s : Settings) : Type 0 where
  pub picture : Binary64 colours
  pub tolerance : T (fits binary64 s.key_bg_tolerance)
