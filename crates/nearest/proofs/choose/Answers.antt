-- `nearest::choose` meets its contract.
-- Assumes nothing.
use Rattle.std.proofs.Common.{arith}
use Rattle.nearest.proofs.Rows.{BeforeRow, before_row, row_no-higher, near_no-higher, row_passed}
use Rattle.nearest.proofs.choose.Goals.{Start}
use Rattle.nearest.proofs.choose.Goals as goal

before : (c : Start) → BeforeRow c.args.mask.pixels.now c.args.mask.size.h c.args.mask.size.w c.args.y c.args.at c.args.plane.now c.args.lines.now
before c = before_row c.args.mask.size.sides c.requires.row_in c.requires.at_passed c.requires.plane_long c.requires.swept

pub nearer_line-requires-clause-row_low : goal.nearer_line-requires-clause-row_low
nearer_line-requires-clause-row_low c = row_no-higher (before (goal.at.nearer_line-requires-clause-row_low c).Start)

pub nearer_line-requires-clause-near_low : goal.nearer_line-requires-clause-near_low
nearer_line-requires-clause-near_low c =
    λ x l. near_no-higher (before (goal.at.nearer_line-requires-clause-near_low c).Start) c.split_at_mut-near.ensures.front x (omega arith)

pub returns : goal.returns
returns c =
    row_passed (before (goal.at.returns c).Start) c.split_at_mut-near.ensures.front c.nearer_line.new.near c.costs_line.new.costs c.line.new.stack
    c.line.new.out (omega arith) (omega arith) c.nearer_line.ensures c.costs_line.ensures c.line.ensures
