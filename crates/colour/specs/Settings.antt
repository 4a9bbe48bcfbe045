-- How the settings are read.
-- Assumes nothing.
use Rattle.std.specs.Prelude.{ℕ, Bool, ℤ, pos, negsuc}
use Rattle.std.specs.Int.Signed.{le_z}
use Rattle.colour.specs.declared.Settings.{Settings}

-- a whole number as a count: a negative number counts as 0 (R28)
abbrev pub at_least_zero : ℤ → ℕ
at_least_zero (pos n) = n
at_least_zero (negsuc n) = 0

-- p, the most passes of growth (R28)
unfoldable pub passes_of : Settings → ℕ
passes_of s = at_least_zero s.key_bg_fringe

-- the mask by alpha (R31): on where alpha is at least the threshold
unfoldable pub on_of : ℕ → ℤ → Bool
on_of alpha threshold = le_z threshold (pos alpha)
