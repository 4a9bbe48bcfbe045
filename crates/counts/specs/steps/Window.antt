-- Whether the window of a place holds an on-pixel.
-- Assumes nothing.
use Rattle.std.specs.Prelude.{ℕ, Bool, ◌&&◌, nat_le}
use Rattle.plane.specs.Search.{some_below}
use Rattle.plane.specs.Plane.{apart}

-- whether p holds of a number below n that is at most k away from x
unfoldable pub in_window : ℕ → ℕ → ℕ → (ℕ → Bool) → Bool
in_window n k x p = some_below n (λ (i : ℕ). p i && nat_le (apart x i) k)
