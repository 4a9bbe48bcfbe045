-- `row_counts::end_steps` meets its contract: the pixels that enter move the first steps, and then those that leave the last.
-- Assumes nothing.
use Rattle.row_counts.proofs.RowLaws.{ends-stepped}
use Rattle.row_counts.proofs.end_steps.Goals as goal

pub returns : goal.returns
returns c =
    ends-stepped c.args.row.k c.requires c.min-a.ensures c.min-b.ensures (rw c.step.ensures at c.move_line.ensures)
    c.saturating_sub-a.ensures c.saturating_sub-b.ensures (rw c.step-2.ensures at c.move_line-2.ensures)
