-- `column_counts::enter_rows` meets its contract. The loop's invariant: the counts are those of the first j rows.
-- Assumes nothing.
use Rattle.std.proofs.Common.{ℕ, ◌≤◌}
use Rattle.plane.specs.Search.{count_below}
use Rattle.column_counts.specs.steps.Strip.{on_strip, Counted}
use Rattle.column_counts.proofs.enter_rows.Given as goal

abbrev pub invariant-loop-j : goal.invariant-loop-j
invariant-loop-j l = record { few : l.t ≤ 126; counted : Counted (λ (x : ℕ). count_below l.j (on_strip l.strip x)) l.t l.low l.rest }
