-- `column_counts::dilate_columns` meets its contract. The loop's invariant: the columns before column c are written.
-- Assumes nothing.
use Rattle.std.proofs.Common.{refl, arith}
use Rattle.column_counts.proofs.Strips.{zeros-long, zeros-counted, strip-swept, all-swept}
use Rattle.column_counts.proofs.dilate_columns.Goals as goal

pub sweep-requires : goal.sweep-requires
sweep-requires c =
    let n = c.min-n.result in
    record {
      size = zeros-long n (omega (arith, c.min-n.ensures));
      zeros = zeros-counted n (omega (arith, c.min-n.ensures));
      written = c.loop-c.invariant;
    }

pub returns : goal.returns
returns c = all-swept c.loop-c.invariant (omega arith)

pub returns-2 : goal.returns-2
returns-2 c = all-swept (strip-swept c.sweep.ensures refl) (omega (arith, c.min-n.ensures))
