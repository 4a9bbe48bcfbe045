-- `line::build` meets its contract.
-- Assumes nothing.
use Rattle.line.proofs.Push.{skipped-to}
use Rattle.line.proofs.build.Goals as goal

pub loop-u-preserved : goal.loop-u-preserved
loop-u-preserved c =
    let next = c.next_site-u in
    (next.ensures.within, skipped-to c.loop-u.invariant.1 c.if-costs-u-le-MAX_COST.false next.result next.ensures)
