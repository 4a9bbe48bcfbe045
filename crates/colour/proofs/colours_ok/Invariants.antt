-- `colour::colours_ok` meets its contract. The invariant is of what is left: the answer for all is that for the rest.
-- Assumes nothing.
use Rattle.std.proofs.Common.{◌≡◌}
use Rattle.std.specs.Slice.Iter.{chunks_rest}
use Rattle.colour.specs.Colour.{colours_ok}
use Rattle.colour.proofs.colours_ok.Given as goal

abbrev pub invariant-loop-block : goal.invariant-loop-block
invariant-loop-block l = record {
  can_next : (goal.iterator-loop-block).can_next l.block-iterator;
  ends : (goal.iterator-loop-block).is_finite l.block-iterator;
  left : colours_ok l.colours ≡ colours_ok (chunks_rest l.block-iterator);
}
