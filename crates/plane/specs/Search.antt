-- Searching and counting among the numbers below n.
-- Assumes nothing.
use Rattle.std.specs.Prelude.{ℕ, zero, suc, ◌+◌, Bool, false, cond, ◌||◌}

-- whether p holds of some number below n
unfoldable pub some_below : ℕ → (ℕ → Bool) → Bool
some_below zero p = false
some_below (suc n) p = some_below n p || p n

-- of how many numbers below n p holds
unfoldable pub count_below : ℕ → (ℕ → Bool) → ℕ
count_below zero p = 0
count_below (suc n) p = count_below n p + cond (p n) 1 0

-- the first and the last number below n of which p holds; n and 0 where there is none
unfoldable pub first_below : ℕ → (ℕ → Bool) → ℕ
first_below zero p = 0
first_below (suc n) p = cond (some_below n p) (first_below n p) (cond (p n) n (suc n))

unfoldable pub last_below : ℕ → (ℕ → Bool) → ℕ
last_below zero p = 0
last_below (suc n) p = cond (p n) n (last_below n p)
