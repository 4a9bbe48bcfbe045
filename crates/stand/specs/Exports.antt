-- What the exported calls hand back: the values of the answer of the call that each stands for, as numbers and records of C.
-- Assumes nothing.
use Rattle.std.specs.Prelude.{ℕ, ◌≡◌, true, false, List, Float, Option, Some, None, Result, Ok, Err}
use Rattle.plane.specs.declared.answer.Refusal.{Refusal}
use Rattle.plane.specs.Refusal.{number_of}
use Rattle.outline.specs.declared.Outcome.{Outcome}
use Rattle.colour.specs.declared.Rgb.{Rgb}
use Rattle.colour.specs.declared.Settings.{Settings}
use Rattle.colour.specs.Number.{zero64}
use Rattle.card.specs.Card.{Card}
use Rattle.outline.specs.Calls.{Buffers}
use Rattle.keying.specs.Calls.{Called}
use Rattle.stand.specs.declared.StandLabels.{StandLabels}
use Rattle.stand.specs.declared.StandGround.{StandGround}
use Rattle.stand.specs.declared.StandCut.{StandCut}
use Rattle.stand.specs.declared.StandNextPass.{StandNextPass}

-- an exported call has handed back r: the call that it stands for has ended with some answer, and r is that answer's values (R70)
pub record Returns {A R : Type 0} (values : A → R) (Call : A → Type 0) (r : R) : Type 0 where
  pub answer : A
  pub called : Call answer
  pub returned : r ≡ values answer

-- labels: the refusal, and the number of parts; 0 where it was declined (R7)
abbrev pub labels_values : Result ℕ Refusal → StandLabels
labels_values (Ok n) = record { refusal = 0; parts = n }
labels_values (Err refusal) = record { refusal = number_of refusal; parts = 0 }

-- the colour that stands where there is no reference (R22)
abbrev pub no_colour : Rgb
no_colour = record { r = zero64; g = zero64; b = zero64 }

-- ground: the refusal, whether the ground was found, and the reference colour; all +0 where it was not (R22)
abbrev pub ground_values : Result (Option Rgb) Refusal → StandGround
ground_values (Ok (Some reference)) = record { refusal = 0; found = true; reference = reference }
ground_values (Ok None) = record { refusal = 0; found = false; reference = no_colour }
ground_values (Err refusal) = record { refusal = number_of refusal; found = false; reference = no_colour }

-- the cut: the refusal, whether a ground was sought and found, and the crop box; no and all 0 where it was declined (R33, R35)
abbrev pub cut_values : Result Outcome Refusal → StandCut
cut_values (Ok cut) =
    record { refusal = 0; keyed = cut.keyed; y0 = cut.crop.y0; y1 = cut.crop.y1; x0 = cut.crop.x0; x1 = cut.crop.x1 }
cut_values (Err refusal) = record { refusal = number_of refusal; keyed = false; y0 = 0; y1 = 0; x0 = 0; x1 = 0 }

-- a look at the coming pass: the refusal, and the number of joins; 0 where it was declined (R90)
abbrev pub next_pass_values : Result ℕ Refusal → StandNextPass
next_pass_values (Ok n) = record { refusal = 0; joins = n }
next_pass_values (Err refusal) = record { refusal = number_of refusal; joins = 0 }

-- a call of the exported cut on a card, with these buffers, has handed back r and left b' (R70)
abbrev pub CutReturns : List Float → List ℕ → ℕ → ℕ → Card → Settings → Buffers → StandCut → Buffers → Type 0
CutReturns colours alpha h w card s b r b' = Returns cut_values (λ (a : Result Outcome Refusal). Called colours alpha h w card s b a b') r

-- two calls of the exported cut have one outline: they hand back the same number, keyed flag and crop box, and, accepted, the same mask and
-- the same weights bit for bit (R66)
pub record SameCut (r q : StandCut) (b' c' : Buffers) : Type 0 where
  pub answers : r ≡ q
  pub masks : r.refusal ≡ 0 → b'.mask ≡ c'.mask
  pub weights : r.refusal ≡ 0 → b'.weights ≡ c'.weights
