-- The sides for which the inner functions are proved; the public calls have a limit of their own.
-- Assumes nothing.
use Rattle.std.specs.Prelude.{ℕ, ◌≤◌}

-- the largest side for which the inner functions are proved
abbrev pub longest_side : ℕ
longest_side = 65536

-- sides of a plane that is not empty and not larger than that
pub record Sides (h w : ℕ) : Type 0 where
  pub some_rows : 1 ≤ h
  pub some_columns : 1 ≤ w
  pub tall : h ≤ longest_side
  pub wide : w ≤ longest_side
