-- The pass down the columns, strip by strip: a running count for each column, in two parts.
-- Assumes nothing.
use Rattle.std.specs.Prelude.{◌≡◌, ℕ, ◌+◌, ◌*◌, ◌<◌, ◌≤◌, Bool, List, length, take, drop, slice_index}
use Rattle.plane.specs.Plane.{bit, on_at, table, plane_of}
use Rattle.plane.specs.steps.Sides.{longest_side}
use Rattle.counts.specs.steps.Window.{in_window}
use Rattle.counts.specs.steps.Parts.{full_byte, rest_of, Split}

-- whether pixel j of column x of a plane is on
abbrev pub on_down : List ℕ → ℕ → ℕ → ℕ → Bool
on_down plane w x j = on_at plane w j x

-- n pixels of row j of a plane, from column c on
abbrev pub strip_row : List ℕ → ℕ → ℕ → ℕ → ℕ → List ℕ
strip_row plane w c n j = take n (drop (j * w + c) plane)

-- whether the window of row y holds an on-pixel in column x, as a byte
abbrev pub column_byte : List ℕ → ℕ → ℕ → ℕ → ℕ → ℕ → ℕ
column_byte plane h w k y x = bit (in_window h k y (on_down plane w x))

-- a plane after the pass down its columns
unfoldable pub dilated_columns : List ℕ → ℕ → ℕ → ℕ → List ℕ
dilated_columns plane h w k = plane_of h w (λ (y x : ℕ). column_byte plane h w k y x)

-- ---- the counts of a strip

-- bytes and rests that are the counts `value`, t moves after they were balanced
pub record Counted (value : ℕ → ℕ) (t : ℕ) (low rest : List ℕ) : Type 0 where
  pub size : length rest ≡ length low
  pub each : (x : ℕ) → x < length low → Split (value x) t (slice_index low x) (slice_index rest x)

-- bytes and rests that are counts of windows
pub record Balanceable (low rest : List ℕ) : Type 0 where
  pub size : length rest ≡ length low
  pub small : (x : ℕ) → x < length low → slice_index low x + slice_index rest x ≤ longest_side

-- they balanced
unfoldable pub balanced_low : List ℕ → List ℕ → List ℕ
balanced_low low rest = table (λ (x : ℕ). full_byte (slice_index low x + slice_index rest x)) 0 (length low)

unfoldable pub balanced_rest : List ℕ → List ℕ → List ℕ
balanced_rest low rest = table (λ (x : ℕ). rest_of (slice_index low x + slice_index rest x)) 0 (length low)

-- the same counts, with few enough moves for two more
pub record Balanced (t : ℕ) (low rest : List ℕ) (u : ℕ) (low' rest' : List ℕ) : Type 0 where
  pub few : u ≤ 125
  pub kept : (value : ℕ → ℕ) → Counted value t low rest → Counted value u low' rest'
