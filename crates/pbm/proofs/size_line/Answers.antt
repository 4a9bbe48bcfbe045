-- `pbm::size_line` meets its contract.
-- Assumes nothing.
use native.Mathlib.Omega.{arith}
use Rattle.text.proofs.Written.{writes-more}
use Rattle.pbm.specs.Text.{size_line}
use Rattle.pbm.proofs.Lengths.{size-long}
use Rattle.pbm.proofs.size_line.Goals as goal

pub pair-requires : goal.pair-requires
pair-requires c = omega (arith, c.requires, size-long c.args.h c.args.w)

pub put-requires : goal.put-requires
put-requires c = omega (arith, c.requires, size-long c.args.h c.args.w)

pub returns : goal.returns
unfolding size_line
returns c = writes-more c.pair.ensures c.put.ensures
