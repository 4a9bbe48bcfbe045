-- The exported calls without a card's colour are what they were before one could be given (R85).
-- Assumes nothing.
use Prim.Native.Nat.{ℕ}
use mathlib.Core.List.{List}
use lib.Ieee.{Float}
use Rattle.colour.specs.declared.Settings.{Settings}
use Rattle.card.specs.Card.{Border}
use Rattle.outline.specs.Calls.{Buffers}
use Rattle.std.specs.Prelude.{Option, Result}
use Rattle.plane.specs.declared.answer.Refusal.{Refusal}
use Rattle.colour.specs.declared.Rgb.{Rgb}
use Rattle.outline.specs.declared.Outcome.{Outcome}
use Rattle.keying.specs.Calls.{GroundCalled}
use Rattle.keying.specs.Earlier.{EarlierGround, EarlierCalled}
use Rattle.keying.proofs.EarlierLaws.{ground-as-before, cut-as-before}
use Rattle.stand.specs.declared.StandGround.{StandGround}
use Rattle.stand.specs.declared.StandCut.{StandCut}
use Rattle.stand.specs.Exports.{Returns, CutReturns, ground_values, cut_values}

pub exported-ground-as-before : (colours : List Float) (h w : ℕ) (t : Float) (work out : List ℕ) (r : StandGround) (work' out' : List ℕ)
    → Returns ground_values (λ (a : Result (Option Rgb) Refusal). GroundCalled colours h w Border t work out a work' out') r
    → Returns ground_values (λ (a : Result (Option Rgb) Refusal). EarlierGround colours h w t work out a work' out') r
exported-ground-as-before colours h w t work out r work' out' e =
    record {
      answer = e.answer;
      called = ground-as-before colours h w t work out e.answer work' out' e.called;
      returned = e.returned;
    }

pub exported-cut-as-before : (colours : List Float) (alpha : List ℕ) (h w : ℕ) (s : Settings) (b : Buffers) (r : StandCut) (b' : Buffers)
    → CutReturns colours alpha h w Border s b r b'
    → Returns cut_values (λ (a : Result Outcome Refusal). EarlierCalled colours alpha h w s b a b') r
exported-cut-as-before colours alpha h w s b r b' e =
    record { answer = e.answer; called = cut-as-before colours alpha h w s b e.answer b' e.called; returned = e.returned }
