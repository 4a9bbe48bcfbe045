-- Counts in two parts, a byte and a rest: only the byte follows every change, modulo 256, and it is 0 only where the count is.
-- Assumes nothing.
use Rattle.std.specs.Prelude.{◌≡◌, ℕ, ◌+◌, ◌-◌, ◌%◌, ◌<◌, ◌≤◌, Bool, cond, List, length, slice_index}
use Rattle.plane.specs.Plane.{table}
use Rattle.plane.specs.Mask.{is_on}
use Rattle.counts.specs.declared.Change.{Change}
use Rattle.counts.specs.declared.Change.TheVariants.{Enters, Leaves}

-- the byte and the rest of a count n where they are balanced: as much of it as is at most 128, and what is above that
abbrev pub full_byte : ℕ → ℕ
full_byte n = n - (n - 128)

abbrev pub rest_of : ℕ → ℕ
rest_of n = n - 128

-- the two parts t changes by one later: the byte is within t of 128, or below that where there is no rest
pub record Split (value t low rest : ℕ) : Type 0 where
  pub sum : low + rest ≡ value
  pub most : low ≤ 128 + t
  pub least : 0 < rest → 128 ≤ low + t

-- a byte changed, modulo 256: 255 is one less
unfoldable pub changed : ℕ → Bool → ℕ → ℕ
changed low moves change = (low + cond moves change 0) % 256

-- by how much a pixel that is on changes a byte
abbrev pub step_by : Change → ℕ
step_by Enters = 1
step_by Leaves = 255

-- what changes a byte where pixels enter and leave at once
abbrev pub step_of : Bool → Bool → ℕ
step_of e l = changed (changed 0 e 1) l 255

-- a line of bytes, each of which is changed where the pixel beside it is on
unfoldable pub moved_line : List ℕ → ℕ → List ℕ → List ℕ
moved_line line change counts = table (λ (x : ℕ). changed (slice_index counts x) (is_on line x) change) 0 (length counts)
