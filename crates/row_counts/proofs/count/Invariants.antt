-- `row_counts::count` meets its contract. The loop's invariant: the on-pixels so far are counted.
-- Assumes nothing.
use Rattle.std.proofs.Common.{◌≡◌}
use Rattle.plane.specs.Search.{count_below}
use Rattle.plane.specs.Mask.{is_on}
use Rattle.row_counts.proofs.count.Given as goal

abbrev pub invariant-loop-m : goal.invariant-loop-m
invariant-loop-m l = l.n ≡ count_below l.m-index (is_on l.line)
