-- `bounds::last_row` meets its contract. The loop's invariant: no row from y on has an on-pixel.
-- Assumes nothing.
use Rattle.std.proofs.Common.{◌≡◌, ℕ, ◌≤◌, ◌<◌, false}
use Rattle.plane.specs.Box.{row_has}
use Rattle.bounds.proofs.last_row.Given as goal

abbrev pub invariant-loop-y : goal.invariant-loop-y
invariant-loop-y l = (j : ℕ) → l.y ≤ j → j < l.mask.size.h → row_has l.mask.pixels.now l.mask.size.w j ≡ false
