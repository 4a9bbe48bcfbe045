-- `plane::sides_ok` meets its contract.
-- Assumes nothing.
use mathlib.Core.Path.{refl}
use Rattle.plane.proofs.sides_ok.Goals as goal

pub returns : goal.returns
returns c = refl
