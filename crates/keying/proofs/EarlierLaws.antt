-- A call without a card's colour is what it was before one could be given (R85).
-- Assumes nothing.
use Prim.Native.Nat.{ℕ}
use mathlib.Core.List.{List}
use lib.Ieee.{Float}
use Rattle.std.specs.Prelude.{Option, Result}
use Rattle.plane.specs.declared.answer.Refusal.{Refusal}
use Rattle.plane.specs.Refusal.{refusal_of}
use Rattle.colour.specs.declared.Rgb.{Rgb}
use Rattle.colour.specs.declared.Settings.{Settings}
use Rattle.card.specs.Card.{Border}
use Rattle.outline.specs.Refusal.{work_tests, ground_lengths, cut_lengths, picture_tests, cut_contents, ground_refusal, cut_refusal}
use Rattle.outline.specs.Calls.{Buffers}
use Rattle.outline.specs.declared.Outcome.{Outcome}
use Rattle.keying.specs.Calls.{GroundCalled, Called}
use Rattle.keying.specs.Earlier.{earlier_ground_refusal, earlier_cut_refusal, EarlierGround, EarlierCalled}

-- the refusals are computed to those of before: without a text its test holds. So all that flat_background ensures is what it was
pub ground-as-before : (colours : List Float) (h w : ℕ) (t : Float) (work out : List ℕ) (r : Result (Option Rgb) Refusal) (work' out' : List ℕ)
    → GroundCalled colours h w Border t work out r work' out' → EarlierGround colours h w t work out r work' out'
unfolding ground_refusal earlier_ground_refusal ground_lengths picture_tests refusal_of
ground-as-before colours h w t work out r work' out' call =
    record { answer = call.answer; out_is = call.out_is; kept = call.kept }

-- and so is all that subject ensures
pub cut-as-before : (colours : List Float) (alpha : List ℕ) (h w : ℕ) (s : Settings) (b : Buffers) (r : Result Outcome Refusal) (b' : Buffers)
    → Called colours alpha h w Border s b r b' → EarlierCalled colours alpha h w s b r b'
unfolding cut_refusal earlier_cut_refusal cut_lengths work_tests picture_tests cut_contents refusal_of
cut-as-before colours alpha h w s b r b' call =
    record {
      answer = call.answer;
      mask_is = call.mask_is;
      weights_is = call.weights_is;
      kept = call.kept;
      held = call.held;
    }
