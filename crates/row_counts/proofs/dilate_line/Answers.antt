-- `row_counts::dilate_line` meets its contract. The loop's invariant: n is the running value before column c, and the pixels before c are
-- written.
-- Assumes nothing.
use Rattle.std.proofs.Common.{refl, arith}
use Rattle.row_counts.proofs.RowLaws.{written-none, written-more, written-all}
use Rattle.row_counts.proofs.dilate_line.Goals as goal

pub loop-c-init : goal.loop-c-init
loop-c-init c = record { within = omega arith; written = written-none c.min.ensures c.count-n.ensures c.requires }

pub loop-c-preserved : goal.loop-c-preserved
loop-c-preserved c =
    let e = c.min-e.ensures in
    record {
      within = omega arith;
      written =
          written-more c.loop-c.invariant.written (omega arith) (omega arith) refl (omega arith)
          c.dilate_block-n.ensures.value c.dilate_block-n.ensures.out_after;
    }

pub returns : goal.returns
returns c = written-all c.loop-c.invariant.written (omega arith)

pub returns-2 : goal.returns-2
returns-2 c =
    let e = c.min-e.ensures in
    let more = written-more c.loop-c.invariant.written (omega arith) (omega arith) refl (omega arith)
    c.dilate_block-n.ensures.value c.dilate_block-n.ensures.out_after in
    written-all more refl
