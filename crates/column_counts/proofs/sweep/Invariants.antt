-- `column_counts::sweep` meets its contract. The loop's invariant: the counts are the running counts before the step to row y, and the
-- first y rows are written.
-- Assumes nothing.
use Rattle.std.proofs.Common.{ℕ, ◌+◌}
use Rattle.counts.specs.Running.{running}
use Rattle.column_counts.specs.steps.Strip.{on_strip, Counted, Swept}
use Rattle.column_counts.proofs.sweep.Given as goal

abbrev pub invariant-loop-y : goal.invariant-loop-y
invariant-loop-y l =
    let s = l.strip in record {
      counted : Counted (λ (x : ℕ). running s.size.h s.k (on_strip s x) l.y) l.t l.low l.rest;
      written : Swept s.plane.now s.size.h s.size.w s.k s.c (s.c + s.n) l.y l.out;
    }
