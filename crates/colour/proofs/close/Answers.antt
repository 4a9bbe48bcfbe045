-- `colour::close` meets its contract.
-- Assumes nothing.
use Rattle.colour.proofs.Range.{close-tests}
use Rattle.colour.proofs.close.Goals as goal

pub returns : goal.returns
returns c =
    cc (close-tests c.args.p c.args.reference c.requires c.args.tolerance)
