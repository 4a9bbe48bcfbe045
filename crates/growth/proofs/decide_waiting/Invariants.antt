-- `growth::decide_waiting` meets its contract.
-- Assumes nothing.
use Rattle.plane.proofs.InPlace.{Changed}
use Rattle.growth.specs.steps.Marks.{last_mark}
use Rattle.growth.proofs.decide_waiting.Given as goal

abbrev pub invariant-loop-i : goal.invariant-loop-i
invariant-loop-i l = Changed 0 (last_mark l.photo.colours.now l.photo.reference l.nearest l.initial.marks) l.initial.marks l.marks l.i
