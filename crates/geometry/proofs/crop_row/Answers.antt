-- `geometry::crop_row` meets its contract.
-- Assumes nothing.
use mathlib.Core.Path.{◌≡◌}
use Prim.Native.Nat.{ℕ, ◌+◌, ◌*◌, ◌-◌}
use native.Mathlib.Omega.{arith}
use Rattle.plane.proofs.Refusal.{is-accepted, is-declined, written, kept}
use Rattle.geometry.specs.Crop.{crop_part}
use Rattle.geometry.proofs.Accepted.{in-plane}
use Rattle.geometry.proofs.crop_row.Goals as goal

gap : (k a b : ℕ) → k + a - (k + b) ≡ a - b
gap k a b = omega arith

pub returns-in-Err : goal.returns-in-Err
unfolding crop_part
returns-in-Err c = let d = is-declined _ _ _ c.in-Err.ensures in rw kept

pub returns-in-Ok : goal.returns-in-Ok
unfolding crop_part
returns-in-Ok c =
    let a = c.args in
    let z = is-accepted _ _ _ c.in-Ok.ensures in
    rw (gap (a.y * a.w), written)

pub overflow_mul-result : goal.overflow_mul-result
overflow_mul-result c = let g = in-plane _ _ _ _ _ _ _ _ (is-accepted _ _ _ c.in-Ok.ensures) in omega arith

pub overflow_add-result : goal.overflow_add-result
overflow_add-result c = let g = in-plane _ _ _ _ _ _ _ _ (is-accepted _ _ _ c.in-Ok.ensures) in omega arith

pub overflow_mul-result-in-Ok : goal.overflow_mul-result-in-Ok
overflow_mul-result-in-Ok c = let g = in-plane _ _ _ _ _ _ _ _ (is-accepted _ _ _ c.in-Ok.ensures) in omega arith

pub overflow_add-result-in-Ok : goal.overflow_add-result-in-Ok
overflow_add-result-in-Ok c = let g = in-plane _ _ _ _ _ _ _ _ (is-accepted _ _ _ c.in-Ok.ensures) in omega arith

pub slice_bounds-result-count : goal.slice_bounds-result-count
slice_bounds-result-count c = let g = in-plane _ _ _ _ _ _ _ _ (is-accepted _ _ _ c.in-Ok.ensures) in omega arith

pub slice_bounds-result-start : goal.slice_bounds-result-start
slice_bounds-result-start c = let g = in-plane _ _ _ _ _ _ _ _ (is-accepted _ _ _ c.in-Ok.ensures) in omega arith

pub slice_bounds-result-end : goal.slice_bounds-result-end
slice_bounds-result-end c = let g = in-plane _ _ _ _ _ _ _ _ (is-accepted _ _ _ c.in-Ok.ensures) in omega arith
