-- `pbm::pair` meets its contract.
-- Assumes nothing.
use native.Mathlib.Omega.{arith}
use Rattle.text.proofs.Written.{writes-more}
use Rattle.pbm.specs.Text.{pair_text}
use Rattle.pbm.proofs.Lengths.{pair-long}
use Rattle.pbm.proofs.pair.Goals as goal

pub number-requires : goal.number-requires
number-requires c = omega (arith, c.requires, pair-long c.args.a c.args.b)

pub put-requires : goal.put-requires
put-requires c = omega (arith, c.requires, pair-long c.args.a c.args.b)

pub number-requires-2 : goal.number-requires-2
number-requires-2 c = omega (arith, c.requires, pair-long c.args.a c.args.b)

pub returns : goal.returns
unfolding pair_text
returns c = writes-more (writes-more c.number.ensures c.put.ensures) c.number-2.ensures
