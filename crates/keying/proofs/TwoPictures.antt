-- The theorem about two pictures, for any two calls of the cut, without a colour given or with one.
-- Assumes nothing.
use Prim.Native.Nat.{ℕ}
use mathlib.Core.Path.{◌≡◌, sym, ap, ◌∙◌}
use mathlib.Core.Bool.{true, false}
use mathlib.Core.List.{List}
use mathlib.Core.Logic.{⊎_elim}
use lib.Dec.{eqb}
use lib.Ieee.{Float}
use borrow.Author.Tests.{eqb-true, eqb-false}
use Rattle.std.specs.Prelude.{Result}
use Rattle.plane.specs.declared.answer.Refusal.{Refusal}
use Rattle.plane.specs.Refusal.{after, refusal_of_answer}
use Rattle.std.proofs.lemmas.Bool.{cases_Bool}
use Rattle.plane.proofs.Refusal.{declined, accepted-number, written}
use Rattle.colour.specs.declared.Settings.{Settings}
use Rattle.card.specs.Card.{Card}
use Rattle.outline.specs.Cut.{Cut}
use Rattle.outline.specs.Answer.{outcome_for}
use Rattle.outline.specs.Calls.{Buffers, refusal_in, cut_in}
use Rattle.outline.specs.Premises.{TwoCalls}
use Rattle.outline.specs.declared.Outcome.{Outcome}
use Rattle.outline.proofs.TwoPictures.{two-pictures}
use Rattle.keying.specs.Calls.{Called, OneOutline}

module _ (one two : List Float) (alpha : List ℕ) (h w : ℕ) (card card' : Card) (s t : Settings) (b c b' c' : Buffers) (r q : Result Outcome Refusal)
    (calls : TwoCalls one two alpha h w card card' s t b c) (first : Called one alpha h w card s b r b')
    (second : Called two alpha h w card' t c q c') where
  refusals : refusal_in one alpha h w card s b ≡ refusal_in two alpha h w card' t c
  refusals = (two-pictures one two alpha h w card card' s t b c calls).refusals_alike

  cuts : refusal_in one alpha h w card s b ≡ 0 → cut_in one alpha h w card s ≡ cut_in two alpha h w card' t
  cuts z = (two-pictures one two alpha h w card card' s t b c calls).cuts_alike z first.held second.held

  answers : r ≡ q
  answers =
      let n = refusal_in one alpha h w card s b in
      let x = cut_in one alpha h w card s in
      let y = cut_in two alpha h w card' t in
      first.answer
      ∙ ⊎_elim {C = outcome_for n x ≡ outcome_for (refusal_in two alpha h w card' t c) y}
      (λ (e : eqb n 0 ≡ true). (let z = eqb-true _ 0 e in rw (cuts z, refusals)))
      (λ (e : eqb n 0 ≡ false).
      let bad = eqb-false _ 0 e in
      declined n _ bad ∙ sym (declined n _ bad) ∙ ap (λ (k : ℕ). outcome_for k y) refusals)
      (cases_Bool (eqb n 0))
      ∙ sym second.answer

  -- Demand 3 (R66), for any two calls: whatever the buffers held before, both calls answer the same, that is, the same number by which they
  -- decline or the same keyed flag and crop box; and where they are accepted, both leave the same mask and the same weights, bit for bit
  pub one-outline : OneOutline r q b' c'
  one-outline =
      record {
        answers = answers;
        masks =
            λ e.
            let z = accepted e in
            kept-alike _ _ z first.mask_is second.mask_is (ap (λ (x : Cut). x.mask) (cuts z));
        weights =
            λ e.
            let z = accepted e in
            kept-alike _ _ z first.weights_is second.weights_is (ap (λ (x : Cut). x.weights) (cuts z));
      }
    where
      -- two outputs of accepted calls are equal where what is written to them is
      kept-alike : {A : Type 0} {new₁ new₂ out₁ out₂ : A} (old₁ old₂ : A) → refusal_in one alpha h w card s b ≡ 0
          → out₁ ≡ after (refusal_in one alpha h w card s b) new₁ old₁ → out₂ ≡ after (refusal_in two alpha h w card' t c) new₂ old₂
          → new₁ ≡ new₂ → out₁ ≡ out₂
      kept-alike _ _ z p q e = p ∙ written _ _ _ z ∙ e ∙ sym (q ∙ written _ _ _ (sym refusals ∙ z))

      accepted : refusal_of_answer r ≡ 0 → refusal_in one alpha h w card s b ≡ 0
      accepted e = accepted-number _ _ (sym (ap refusal_of_answer first.answer) ∙ e)
