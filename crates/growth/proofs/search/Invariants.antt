-- `growth::search` meets its contract.
-- Assumes nothing.
use Rattle.std.proofs.Common.{◌≡◌, ℕ, eqb}
use Rattle.plane.specs.Search.{some_below}
use Rattle.plane.proofs.InPlace.{Changed}
use Rattle.growth.specs.steps.Marks.{waits, near_deep, search_mark}
use Rattle.growth.proofs.search.Given as goal

abbrev pub invariant-loop-i : goal.invariant-loop-i
invariant-loop-i l =
    let mark : ℕ → ℕ = search_mark l.photo.colours.now l.photo.reference (near_deep l.deep) l.initial.marks in record {
      changed : Changed 0 mark l.initial.marks l.marks l.i;
      known : l.found ≡ some_below l.i (λ (k : ℕ). eqb (mark k) waits);
    }
