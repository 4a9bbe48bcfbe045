-- What is known of the sides of an accepted call.
-- Assumes nothing.
use Rattle.std.specs.Prelude.{ℕ, ◌≡◌}
use Rattle.plane.specs.declared.size.Size.{Size}

-- the sides that it goes on with are those that it was given
abbrev pub HasSides : ℕ → ℕ → Size → Type 0
HasSides h w size = (size.h ≡ h) × (size.w ≡ w)
