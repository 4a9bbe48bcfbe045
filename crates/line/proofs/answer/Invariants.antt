-- `line::answer` meets its contract: the segments are written from the last to the first.
-- Assumes nothing.
use Rattle.std.proofs.Common.{◌≡◌, ℕ, ◌≤◌, ◌<◌, List, length, get_or}
use Rattle.line.specs.steps.Envelope.{InSegment}
use Rattle.line.proofs.answer.Given as goal

-- the segments from site q on are written: the places from end on
pub record Answered (old out stack : List ℕ) (count base q end : ℕ) : Type 0 where
  pub size : length out ≡ length old
  pub low : end ≤ length old
  pub ends : q < count → end ≡ get_or old q 0
  pub whole : q ≡ count → end ≡ length old
  pub answered : (x : ℕ) → end ≤ x → x < length old → InSegment old stack count base x (get_or out x 0)
  pub before : (i : ℕ) → i < end → get_or out i 0 ≡ get_or old i 0

abbrev pub invariant-loop-q : goal.invariant-loop-q
invariant-loop-q l = Answered l.initial.out l.out l.stack l.count l.base l.q l.end
