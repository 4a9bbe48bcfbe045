-- One step from a pixel towards another.
-- Assumes nothing.
use Rattle.std.specs.Prelude.{ℕ, ◌+◌, ◌-◌, cond, ltb}

-- a row, or a column, one step nearer to another; itself where they are the same
unfoldable pub towards : ℕ → ℕ → ℕ
towards j y = cond (ltb j y) (j + 1) (cond (ltb y j) (j - 1) j)
