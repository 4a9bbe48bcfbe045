-- What the line pass is lent: the costs of a line that is not too long, an answer for each place, and a stack with room for all.
-- Assumes nothing.
use Rattle.std.specs.Prelude.{◌≤◌, ◌≡◌, List, ℕ, length}
use Rattle.line.specs.steps.Line.{most_length}

pub record Lent (out costs stack : List ℕ) : Type 0 where
  pub short : length costs ≤ most_length
  pub out_long : length out ≡ length costs
  pub stack_long : length costs ≤ length stack
