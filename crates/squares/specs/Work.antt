-- What the dilation leaves in its work buffer.
-- Assumes nothing.
use Rattle.std.specs.Prelude.{◌≡◌, ℕ, ◌≤◌, List, ◌⊎◌, length, get_or}

-- every place holds afterwards 0, 1 or its old number (R88)
pub record BitOrOld (old new : List ℕ) : Type 0 where
  pub size : length new ≡ length old
  pub each : (i : ℕ) → (get_or new i 0 ≤ 1) ⊎ (get_or new i 0 ≡ get_or old i 0)
