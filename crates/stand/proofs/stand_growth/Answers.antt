-- `stand::stand_growth` meets its contract.
-- Assumes nothing.
use mathlib.Core.Path.{◌≡◌}
use mathlib.Core.List.{List}
use Prim.Native.Nat.{ℕ}
use lib.IntN.{ℤ}
use lib.Ieee.{Float}
use mir.Syntax.{w64}
use mir.Facts.{to_z-of_z}
use Rattle.std.specs.Prelude.{Result}
use Rattle.plane.specs.declared.answer.Refusal.{Refusal}
use Rattle.colour.specs.declared.Rgb.{Rgb}
use Rattle.keying.specs.Calls.{GrowthBuffers, GrowthCalled}
use Rattle.stand.proofs.stand_growth.Goals as goal

-- a call with a number of passes is one with an equal number
passes_same : {colours : List Float} {background : List ℕ} {h w : ℕ} {reference : Rgb} {p q : ℤ} {b b' : GrowthBuffers} {r : Result Unit Refusal}
    → p ≡ q → GrowthCalled colours background h w reference p b r b' → GrowthCalled colours background h w reference q b r b'
passes_same e call = rw e at call

pub returns : goal.returns
returns c =
    record {
      answer = c.unmix_fringe.result;
      called = passes_same (to_z-of_z {w = w64} {z = c.args.passes} c.ranges.passes) c.unmix_fringe.ensures;
      returned = c.refusal_of.ensures;
    }
