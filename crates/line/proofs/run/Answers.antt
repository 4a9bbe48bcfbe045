-- `line::run` meets its contract.
-- Assumes nothing.
use Rattle.std.proofs.Common.{◌≡◌, ℕ, ◌<◌, length, get_or, rules, arith}
use Rattle.line.proofs.Runs.{ran-none, ran-segments}
use Rattle.line.proofs.run.Goals as goal

pub returns-then-count-eq0 : goal.returns-then-count-eq0
returns-then-count-eq0 c =
    let filled : (x : ℕ) → x < length c.args.costs.now → get_or c.fill.new.self x 0 ≡ 4294967295 = λ x l. search rules in
    ran-none c.build-count.new.out c.build-count.new.stack c.args.base c.build-count.ensures (omega arith) _ c.if-count-eq0.true filled

pub returns : goal.returns
returns c =
    ran-segments c.build-count.new.out c.build-count.new.stack c.args.base c.build-count.ensures (omega arith) c.answer.new.out
    c.answer.ensures
