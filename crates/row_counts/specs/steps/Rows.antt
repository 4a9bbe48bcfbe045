-- The line pass along a row: the running count block by block, by its changes at each column.
-- Assumes nothing.
use Rattle.std.specs.Prelude.{◌≡◌, ℕ, zero, suc, ◌+◌, ◌%◌, ◌<◌, ◌≤◌, List, length, nat_lt, slice_index}
use Rattle.plane.specs.Plane.{on, bit, on_at, table, plane_of}
use Rattle.plane.specs.Mask.{is_on, mask_of}
use Rattle.plane.specs.steps.Sides.{longest_side}
use Rattle.counts.specs.Running.{window_count, enters, leaves, running}
use Rattle.counts.specs.steps.Window.{in_window}
use Rattle.counts.specs.steps.Parts.{step_of}

-- a row after the line pass: 1 where the pixel's window holds an on-pixel, else 0
unfoldable pub dilated_row : List ℕ → ℕ → List ℕ
dilated_row row k = mask_of (length row) (λ (x : ℕ). in_window (length row) k x (is_on row))

-- a plane after the line pass along each row
unfoldable pub dilated_rows : List ℕ → ℕ → ℕ → ℕ → List ℕ
dilated_rows mask h w k = plane_of h w (λ (y x : ℕ). bit (in_window w k x (on_at mask w y)))

-- m columns of a row from column c on: 1 where the count of the pixel's window is above 0
unfoldable pub counted_part : List ℕ → ℕ → ℕ → ℕ → List ℕ
counted_part row k c m = mask_of m (λ (i : ℕ). nat_lt 0 (window_count (length row) k (c + i) (is_on row)))

-- a byte after x steps, from b on
unfoldable pub tally : List ℕ → ℕ → ℕ → ℕ
tally steps b zero = b
tally steps b (suc x) = (tally steps b x + slice_index steps x) % 256

-- 1 where the byte after the step is not 0
unfoldable pub ran_line : List ℕ → ℕ → List ℕ
ran_line steps b = mask_of (length steps) (λ (x : ℕ). on (tally steps b (x + 1)))

-- the steps where at each of them a pixel of one line enters and one of another leaves
unfoldable pub change_line : List ℕ → List ℕ → List ℕ
change_line enter leave = table (λ (x : ℕ). step_of (is_on enter x) (is_on leave x)) 0 (length enter)

-- lines of one length
pub record Changing (enter leave steps : List ℕ) : Type 0 where
  pub leave_size : length leave ≡ length enter
  pub steps_size : length steps ≡ length enter

-- columns from column c on of a row, with a step for each, all 0
pub record Steppable (row : List ℕ) (c : ℕ) (steps : List ℕ) : Type 0 where
  pub inside : c + length steps ≤ length row
  pub zeros : (i : ℕ) → i < length steps → slice_index steps i ≡ 0

-- the steps of these columns
pub record Stepped (row : List ℕ) (k c : ℕ) (steps : List ℕ) : Type 0 where
  pub each : (i : ℕ) → i < length steps
      → slice_index steps i ≡ step_of (enters (length row) k (is_on row) (c + i)) (leaves k (is_on row) (c + i))

-- a count, and a line to write that is as long as the steps
pub record Runnable (steps : List ℕ) (n : ℕ) (out : List ℕ) : Type 0 where
  pub size : length out ≡ length steps
  pub small : n ≤ longest_side

-- at most 256 columns from column c on, and the running value before them
pub record Block (row : List ℕ) (k c n : ℕ) (out : List ℕ) : Type 0 where
  pub inside : c + length out ≤ length row
  pub short : length out ≤ 256
  pub value : n ≡ running (length row) k (is_on row) c
