-- `colour::reaches` meets its contract.
-- Assumes nothing.
use Rattle.std.proofs.Common.{rules}
use Rattle.colour.specs.Settings.{on_of}
use Rattle.colour.proofs.reaches.Goals as goal

pub returns : goal.returns
unfolding on_of
returns c = search rules
