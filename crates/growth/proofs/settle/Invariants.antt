-- `growth::settle` meets its contract.
-- Assumes nothing.
use Rattle.std.proofs.Common.{◌≡◌, ℕ, ◌||◌}
use Rattle.plane.specs.Plane.{bit}
use Rattle.plane.specs.Search.{some_below}
use Rattle.plane.specs.Mask.{is_on}
use Rattle.plane.proofs.InPlace.{Changed}
use Rattle.growth.proofs.settle.Given as goal

abbrev pub invariant-loop-i : goal.invariant-loop-i
invariant-loop-i l = record {
  changed : Changed 0 (λ (k : ℕ). bit (is_on l.initial.back k || is_on l.marks k)) l.initial.back l.back l.i;
  known : l.joined ≡ some_below l.i (is_on l.marks);
}
