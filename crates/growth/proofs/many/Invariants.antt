-- `growth::many` meets its contract.
-- Assumes nothing.
use Rattle.std.proofs.Common.{◌≤◌}
use Rattle.growth.proofs.many.Given as goal

abbrev pub invariant-loop-m : goal.invariant-loop-m
invariant-loop-m l = l.n ≤ l.m-index
