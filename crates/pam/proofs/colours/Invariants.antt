-- `pam::colours` meets its contract.
-- Assumes nothing.
use mathlib.Core.List.{List}
use Prim.Native.Nat.{ℕ, ◌+◌, ◌*◌, ◌/◌, ◌%◌}
use lib.Ieee.{Float, nan}
use Rattle.plane.proofs.InPlace.{Changed}
use Rattle.colour.specs.Weight.{weight_of}
use Rattle.pam.specs.Picture.{sample_at}
use Rattle.pam.proofs.colours.Given as goal

-- number k of the colours
abbrev pub channel : List ℕ → ℕ → ℕ → Float
channel input body k = weight_of (sample_at input body (4 * (k / 3) + k % 3))

abbrev pub invariant-loop-k : goal.invariant-loop-k
invariant-loop-k l = Changed nan (channel l.input l.body) l.initial.out l.out l.k
