-- The number of an answer is that of the first test that fails (R60): so ground, growth and cut are declined by the number of their
-- refusal.
-- Assumes nothing.
use mathlib.Core.Path.{◌≡◌, refl}
use mathlib.Core.List.{List}
use Prim.Native.Nat.{ℕ}
use lib.Ieee.{Float}
use Rattle.plane.specs.Refusal.{answer_for, refusal_of_answer}
use Rattle.plane.proofs.Refusal.{number-of-answer}
use Rattle.colour.specs.declared.Rgb.{Rgb}
use Rattle.colour.specs.declared.Settings.{Settings}
use Rattle.card.specs.Card.{Card}
use Rattle.outline.specs.Calls.{Buffers, refusal_in}
use Rattle.outline.specs.Refusal.{work_tests, ground_lengths, growth_lengths, cut_lengths, picture_tests, cut_contents}
use Rattle.outline.specs.Refusal.{ground_refusal, growth_refusal, cut_refusal}
use Rattle.keying.specs.Calls.{ground_refusal_in, GrowthBuffers, growth_refusal_in}

pub ground-number : {A : Type 0} (colours : List Float) (h w : ℕ) (card : Card) (t : Float) (work out : List ℕ) (v : A)
    → refusal_of_answer (answer_for (ground_refusal_in colours h w card t work out) v) ≡ ground_refusal_in colours h w card t work out
unfolding ground_refusal ground_lengths picture_tests
ground-number colours h w card t work out v = number-of-answer _ v refl

pub growth-number : {A : Type 0} (colours : List Float) (background : List ℕ) (h w : ℕ) (reference : Rgb) (b : GrowthBuffers) (v : A)
    → refusal_of_answer (answer_for (growth_refusal_in colours background h w reference b) v)
    ≡ growth_refusal_in colours background h w reference b
unfolding growth_refusal growth_lengths work_tests
growth-number colours background h w reference b v = number-of-answer _ v refl

pub cut-number : {A : Type 0} (colours : List Float) (alpha : List ℕ) (h w : ℕ) (card : Card) (s : Settings) (b : Buffers) (v : A)
    → refusal_of_answer (answer_for (refusal_in colours alpha h w card s b) v) ≡ refusal_in colours alpha h w card s b
unfolding cut_refusal cut_lengths work_tests picture_tests cut_contents
cut-number colours alpha h w card s b v = number-of-answer _ v refl
