-- `colour::passes` meets its contract.
-- Assumes nothing.
use Rattle.std.proofs.Common.{rules}
use Rattle.colour.specs.Settings.{passes_of}
use Rattle.colour.proofs.passes.Goals as goal

pub returns : goal.returns
unfolding passes_of
returns c = search rules
