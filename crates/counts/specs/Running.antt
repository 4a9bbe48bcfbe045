-- Running counts: a window slides along a line of n pixels, of which p tells whether one is on, and the number of its on-pixels is a
-- running value.
-- Assumes nothing.
use Rattle.std.specs.Prelude.{ℕ, zero, suc, ◌+◌, ◌-◌, Bool, ◌&&◌, nat_le, nat_lt}
use Rattle.plane.specs.Search.{count_below}
use Rattle.plane.specs.Plane.{bit, apart}
use Rattle.plane.specs.Box.{lesser_of}

-- the count of the window of x: how many pixels of the line that are at most k away from x are on (R87)
unfoldable pub window_count : ℕ → ℕ → ℕ → (ℕ → Bool) → ℕ
window_count n k x p = count_below n (λ (i : ℕ). p i && nat_le (apart x i) k)

-- whether an on-pixel enters at the step to x, k places on, and whether one leaves, k + 1 places back (R87)
unfoldable pub enters : ℕ → ℕ → (ℕ → Bool) → ℕ → Bool
enters n k p x = nat_lt (x + k) n && p (x + k)

unfoldable pub leaves : ℕ → (ℕ → Bool) → ℕ → Bool
leaves k p x = nat_lt k x && p (x - (k + 1))

-- the running value before the step to x: at first the on-pixels among the first k; at each step what enters is added, and what
-- leaves is taken off (R87)
unfoldable pub running : ℕ → ℕ → (ℕ → Bool) → ℕ → ℕ
running n k p zero = count_below (lesser_of k n) p
running n k p (suc x) = running n k p x + bit (enters n k p x) - bit (leaves k p x)
