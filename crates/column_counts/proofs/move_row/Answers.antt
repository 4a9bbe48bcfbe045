-- `column_counts::move_row` meets its contract.
-- Assumes nothing.
use Rattle.std.proofs.Common.{arith}
use Rattle.column_counts.proofs.Strips.{row-moved, none-moved}
use Rattle.column_counts.proofs.move_row.Goals as goal

pub returns-in-Some : goal.returns-in-Some
returns-in-Some c = row-moved c.args.strip c.args.change c.in-Some.is c.requires.size c.row.ensures.value (rw c.step.ensures at c.move_line.ensures)

pub returns-in_default : goal.returns-in_default
returns-in_default c = none-moved c.args.strip c.args.change c.in_default.is (λ x. omega (arith, c.type_inv.low x))
