-- What a method that is lent a buffer keeps.
-- Assumes nothing.
use Rattle.std.specs.Prelude.{ℕ, ◌≡◌, List, length}
use Rattle.std.specs.Borrow.{MutBor}

-- a reference before and after a call: it still leads to the same buffer
pub record SameBuffer (old new : MutBor (List ℕ)) : Type 0 where
  pub reference : new.ghost_name ≡ old.ghost_name
  pub size : length new.now ≡ length old.now
