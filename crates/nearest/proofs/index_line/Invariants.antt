-- `nearest::index_line` meets its contract.
-- Assumes nothing.
use Rattle.std.proofs.Common.{◌≡◌, ℕ, ◌≤◌, ◌<◌, length, get_or}
use Rattle.plane.specs.Plane.{index_of}
use Rattle.nearest.specs.steps.Stages.{pixel_in}
use Rattle.nearest.proofs.index_line.Given as goal

abbrev pub invariant-loop-place : goal.invariant-loop-place
invariant-loop-place l =
    ((k : ℕ) → k < l.place-index → get_or l.row k 0 ≡ index_of (length l.near) (pixel_in l.near (get_or l.initial.row k 0)))
    × ((k : ℕ) → l.place-index ≤ k → get_or l.row k 0 ≡ get_or l.initial.row k 0)
