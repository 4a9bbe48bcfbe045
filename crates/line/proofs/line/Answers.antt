-- `line::line` meets its contract.
-- Assumes nothing.
use Rattle.std.proofs.Common.{arith}
use Rattle.line.proofs.Runs.{own-next, lone-next, run-next, all_done}
use Rattle.line.proofs.line.Goals as goal

pub loop-x-preserved-then-costs-x-eq0 : goal.loop-x-preserved-then-costs-x-eq0
loop-x-preserved-then-costs-x-eq0 c = own-next (omega arith) c.loop-x.invariant c.loop-x-test.true c.if-costs-x-eq0.true

pub loop-x-preserved-then-lone : goal.loop-x-preserved-then-lone
loop-x-preserved-then-lone c =
    lone-next (omega arith) c.loop-x.invariant c.loop-x-test.true c.if-costs-x-eq0.false (c.lone.ensures c.if-lone.true)

pub loop-x-preserved : goal.loop-x-preserved
loop-x-preserved c =
    run-next (omega arith) c.loop-x.invariant c.loop-x-test.true c.if-costs-x-eq0.false c.run.new.out c.run_end-e.ensures
    (omega arith) (omega arith) c.run.ensures

pub returns : goal.returns
returns c = all_done (omega arith) c.loop-x.invariant c.loop-x-test.false
