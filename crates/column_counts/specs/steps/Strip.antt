-- A strip of a plane: its columns, their counts before and after each step, and the plane that is written.
-- Assumes nothing.
use Rattle.std.specs.Prelude.{◌≡◌, ℕ, ◌+◌, ◌*◌, ◌<◌, ◌≤◌, Bool, false, List, length, slice_index, Option, Some, None}
use Rattle.plane.specs.Mask.{is_on, mask_of}
use Rattle.counts.specs.declared.Change.{Change}
use Rattle.counts.specs.Running.{window_count, enters, leaves, running}
use Rattle.counts.specs.steps.Parts.{step_by, changed}
use Rattle.column_counts.specs.declared.columns.Strip.{Strip}
use Rattle.column_counts.specs.steps.Columns.{on_down, column_byte}
pub use Rattle.column_counts.specs.steps.Columns.{Counted}

-- whether pixel j of the strip's column x is on
abbrev pub on_strip : Strip → ℕ → ℕ → Bool
on_strip s x j = on_down s.plane.now s.size.w (s.c + x) j

-- the same of a row that may be there
abbrev pub moves : Strip → Option ℕ → ℕ → Bool
moves s None x = false
moves s (Some j) x = on_strip s x j

-- the bytes of a strip after a row has entered, or left
pub record MovedRow (s : Strip) (j : Option ℕ) (change : Change) (low low' : List ℕ) : Type 0 where
  pub each : (x : ℕ) → x < length low → slice_index low' x ≡ changed (slice_index low x) (moves s j x) (step_by change)

-- the bytes of a strip, the window's next row y, and a line for its pixels,
pub record Following (s : Strip) (y : ℕ) (low out : List ℕ) : Type 0 where
  pub size : length low ≡ s.n
  pub row : y < s.size.h
  pub line : length out ≡ s.n

-- and the bytes after a row has entered, and one has left: a pixel is on where its byte is not 0
pub record Followed (s : Strip) (y : ℕ) (low low' out : List ℕ) : Type 0 where
  pub each : (x : ℕ) → x < length low
      → slice_index low' x ≡ changed (changed (slice_index low x) (enters s.size.h s.k (on_strip s x) y) 1) (leaves s.k (on_strip s x) y) 255
  pub tested : out ≡ mask_of (length low) (is_on low')

-- lines of one length
pub record Lines (enter leave low out : List ℕ) : Type 0 where
  pub leave_size : length leave ≡ length enter
  pub low_size : length low ≡ length enter
  pub out_size : length out ≡ length enter

-- the running counts before the step to row y,
pub record Slidable (s : Strip) (y t : ℕ) (low rest out : List ℕ) : Type 0 where
  pub following : Following s y low out
  pub counted : Counted (λ (x : ℕ). running s.size.h s.k (on_strip s x) y) t low rest

-- and after it: in each column the count of row y's window, and a pixel that tells whether it is above 0
pub record Slid (s : Strip) (y t : ℕ) (low rest out : List ℕ) : Type 0 where
  pub few : t ≤ 127
  pub counted : Counted (λ (x : ℕ). window_count s.size.h s.k y (on_strip s x)) t low rest
  pub tested : out ≡ mask_of (length low) (is_on low)

-- in a plane that is written, the first c columns are, and of the first d columns the first r rows
pub record Swept (plane : List ℕ) (h w k c d r : ℕ) (new : List ℕ) : Type 0 where
  pub size : length new ≡ h * w
  pub before : (y x : ℕ) → y < h → x < c → slice_index new (y * w + x) ≡ column_byte plane h w k y x
  pub done : (y x : ℕ) → y < r → x < d → slice_index new (y * w + x) ≡ column_byte plane h w k y x

-- a count of 0 for each column of a strip; the columns before it are written
pub record Start (s : Strip) (low rest out : List ℕ) : Type 0 where
  pub size : length low ≡ s.n
  pub zeros : Counted (λ (x : ℕ). 0) 0 low rest
  pub written : Swept s.plane.now s.size.h s.size.w s.k s.c s.c 0 out
