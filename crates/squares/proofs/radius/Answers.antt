-- `squares::radius` meets its contract.
-- Assumes nothing.
use Rattle.std.proofs.Common.{arith}
use Rattle.squares.proofs.Laws.{larger-max, reach-none, reach-some, radius-min}
use Rattle.squares.proofs.radius.Goals as goal

pub returns-then-iterations-eq0 : goal.returns-then-iterations-eq0
returns-then-iterations-eq0 c =
    let h = c.args.size.h in
    let w = c.args.size.w in
    rw c.if-iterations-eq0.true (omega (arith, c.max-side.ensures, larger-max h w, radius-min h w 0, reach-none h w))

pub returns : goal.returns
returns c =
    let h = c.args.size.h in
    let w = c.args.size.w in
    let n = c.args.iterations in
    omega (arith, c.min.ensures, c.max-side.ensures, larger-max h w, radius-min h w n, reach-some h w n (omega arith))
