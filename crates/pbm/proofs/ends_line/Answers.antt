-- `pbm::ends_line` meets its contract.
-- Assumes nothing.
use mathlib.Core.Path.{refl}
use Rattle.pbm.specs.Text.{ends_line}
use Rattle.pbm.proofs.ends_line.Goals as goal

pub returns : goal.returns
unfolding ends_line
returns c = refl
