-- `row_counts::dilate_rows` meets its contract. The loop's invariant: the buffer holds the first y rows, and then what it held before.
-- Assumes nothing.
use Rattle.std.proofs.Common.{◌≡◌, ℕ, ◌*◌, List, ◌++◌, drop}
use Rattle.plane.specs.Plane.{bit, on_at, table, rows_upto}
use Rattle.counts.specs.steps.Window.{in_window}
use Rattle.row_counts.proofs.dilate_rows.Given as goal

-- row y of the plane after the line pass
abbrev pub row_of : List ℕ → ℕ → ℕ → ℕ → List ℕ
row_of mask w k y = table (λ (x : ℕ). bit (in_window w k x (on_at mask w y))) 0 w

abbrev pub invariant-loop-y : goal.invariant-loop-y
invariant-loop-y l = let w = l.mask.size.w in l.out ≡ rows_upto l.y (row_of l.mask.pixels.now w l.k) ++ drop (l.y * w) l.initial.out
