-- `pbm::pixels` meets its contract.
-- Assumes nothing.
use Rattle.text.specs.steps.Writing.{Writes}
use Rattle.pbm.specs.Text.{pixels_text}
use Rattle.pbm.proofs.pixels.Given as goal

abbrev pub invariant-loop-i : goal.invariant-loop-i
invariant-loop-i l = Writes (pixels_text l.mask l.w l.i) l.initial.page l.page
