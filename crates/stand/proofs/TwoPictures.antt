-- The theorem about two pictures, for any two calls of the exported cuts, which is what hosts call.
-- Assumes nothing.
use Prim.Native.Nat.{ℕ}
use mathlib.Core.Path.{◌≡◌, refl, sym, ap, ◌∙◌}
use mathlib.Core.List.{List}
use lib.Ieee.{Float}
use Rattle.colour.specs.declared.Settings.{Settings}
use Rattle.card.specs.Card.{Card}
use Rattle.outline.specs.declared.Outcome.{Outcome}
use Rattle.std.specs.Prelude.{Result, Ok, Err}
use Rattle.plane.specs.declared.answer.Refusal.{Refusal}
use Rattle.plane.specs.Refusal.{refusal_of_answer}
use Rattle.outline.specs.Calls.{Buffers}
use Rattle.outline.specs.Premises.{TwoCalls}
use Rattle.keying.proofs.TwoPictures.{one-outline}
use Rattle.stand.specs.declared.StandCut.{StandCut}
use Rattle.stand.specs.Exports.{CutReturns, cut_values, SameCut}

-- the number that is handed back is that of the answer
refusal-handed : (a : Result Outcome Refusal) → (cut_values a).refusal ≡ refusal_of_answer a
refusal-handed (Ok cut) = refl
refusal-handed (Err refusal) = refl

-- Demand 3 (R66, R84) for hosts: whatever the buffers held before, two such calls hand back the same number, keyed flag and crop box; and
-- where they are accepted, both leave the same mask and the same weights, bit for bit. Two calls of stand_cut are on cards without a
-- colour, and two of stand_cut_with_colour on those of their texts
pub exported-alike : (one two : List Float) (alpha : List ℕ) (h w : ℕ) (card card' : Card) (s t : Settings) (b c b' c' : Buffers) (r q : StandCut)
    → TwoCalls one two alpha h w card card' s t b c → CutReturns one alpha h w card s b r b' → CutReturns two alpha h w card' t c q c'
    → SameCut r q b' c'
exported-alike one two alpha h w card card' s t b c b' c' r q calls first second =
    let o = one-outline one two alpha h w card card' s t b c b' c' first.answer second.answer calls first.called second.called in
    let answer = first.answer in
    let n : r.refusal ≡ refusal_of_answer answer = ap (λ (z : StandCut). z.refusal) first.returned ∙ refusal-handed answer in
    record {
      answers = first.returned ∙ ap cut_values o.answers ∙ sym second.returned;
      masks = λ e. o.masks (sym n ∙ e);
      weights = λ e. o.weights (sym n ∙ e);
    }
