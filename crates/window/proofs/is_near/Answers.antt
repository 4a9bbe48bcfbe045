-- `window::is_near` meets its contract.
-- Assumes nothing.
use Rattle.std.proofs.Common.{arith}
use Rattle.std.proofs.lemmas.Bool.Decides.{nat_tests}
use Rattle.plane.specs.Plane.{apart}
use Rattle.nearest.specs.Nearest.{away}
use Rattle.window.proofs.is_near.Goals as goal

pub returns : goal.returns
unfolding away apart
returns c = rw (c.abs_diff-dy.ensures, c.abs_diff-dx.ensures) (grind (arith, nat_tests))
