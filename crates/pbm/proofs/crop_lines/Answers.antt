-- `pbm::crop_lines` meets its contract.
-- Assumes nothing.
use native.Mathlib.Omega.{arith}
use Rattle.text.proofs.Written.{writes-more}
use Rattle.pbm.specs.Text.{crop_lines}
use Rattle.pbm.proofs.Lengths.{crop-long}
use Rattle.pbm.proofs.crop_lines.Goals as goal

pub copy-requires : goal.copy-requires
copy-requires c = omega (arith, c.requires, crop-long c.args.crop c.args.keyed)

pub pair-requires : goal.pair-requires
pair-requires c = omega (arith, c.requires, crop-long c.args.crop c.args.keyed)

pub put-requires : goal.put-requires
put-requires c = omega (arith, c.requires, crop-long c.args.crop c.args.keyed)

pub pair-requires-2 : goal.pair-requires-2
pair-requires-2 c = omega (arith, c.requires, crop-long c.args.crop c.args.keyed)

pub keyed_end-requires : goal.keyed_end-requires
keyed_end-requires c = omega (arith, c.requires, crop-long c.args.crop c.args.keyed)

pub returns : goal.returns
unfolding crop_lines
returns c =
    let rows = writes-more (writes-more c.copy.ensures c.pair.ensures) c.put.ensures in
    writes-more (writes-more rows c.pair-2.ensures) c.keyed_end.ensures
