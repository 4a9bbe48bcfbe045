-- `labels::flatten` meets its contract. The loop's invariant: the labels below k have their numbers.
-- Assumes nothing.
use Rattle.labels.specs.steps.Trees.{Numbered}
use Rattle.labels.proofs.flatten.Given as goal

abbrev pub invariant-loop-k : goal.invariant-loop-k
invariant-loop-k l = Numbered l.initial.parents l.parents l.m l.k l.n
