-- `ground::close_plane` meets its contract.
-- Assumes nothing.
use Rattle.std.proofs.Common.{◌≡◌, ℕ, ◌<◌, slice_index}
use Rattle.plane.specs.Plane.{bit}
use Rattle.outline.specs.Ground.{is_close}
use Rattle.ground.proofs.close_plane.Given as goal

abbrev pub invariant-loop-i : goal.invariant-loop-i
invariant-loop-i l = (k : ℕ) → k < l.i → slice_index l.out k ≡ bit (is_close l.picture.colours.now l.reference.colour l.tolerance k)
