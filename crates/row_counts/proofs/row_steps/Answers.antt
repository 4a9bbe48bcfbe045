-- `row_counts::row_steps` meets its contract.
-- Assumes nothing.
use Rattle.std.proofs.Common.{refl, arith}
use Rattle.row_counts.proofs.RowLaws.{change-stepped}
use Rattle.row_counts.proofs.row_steps.Goals as goal

pub returns : goal.returns
returns c =
    change-stepped c.requires (omega arith) (omega arith) refl refl refl c.change_line.ensures
