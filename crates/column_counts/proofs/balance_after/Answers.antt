-- `column_counts::balance_after` meets its contract.
-- Assumes nothing.
use Rattle.std.proofs.Common.{arith}
use Rattle.column_counts.proofs.Strips.{counted-new}
use Rattle.column_counts.proofs.balance_after.Goals as goal

pub returns : goal.returns
returns c =
    let call = c.balance in
    record { few = omega arith; kept = λ value n. counted-new n call.ensures.low_after call.ensures.rest_after }
