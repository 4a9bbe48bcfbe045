-- `squares::dilate` meets its contract.
-- Assumes nothing.
use Rattle.std.proofs.Common.{◌*◌, drop}
use Rattle.squares.proofs.Laws.{radius-near}
use Rattle.squares.proofs.Passes.{passes-are, work-kept}
use Rattle.squares.proofs.dilate.Goals as goal

pub dilate_rows-requires-clause-near : goal.dilate_rows-requires-clause-near
dilate_rows-requires-clause-near c = radius-near _ c.args.mask.size.sides c.radius-k.ensures

pub dilate_columns-requires-clause-near : goal.dilate_columns-requires-clause-near
dilate_columns-requires-clause-near c = radius-near _ c.args.mask.size.sides c.radius-k.ensures

pub returns : goal.returns
returns c =
    let mask = c.args.mask in
    let h = mask.size.h in
    let w = mask.size.w in
    let rows = c.dilate_rows in
    record {
      out_after =
          passes-are mask.pixels.now (drop (h * w) c.args.work.now) h w c.args.iterations c.radius-k.ensures rows.ensures c.dilate_columns.ensures;
      bit_or_old = work-kept mask.pixels.now h w _ rows.ensures rows.auto.out mask.size.sides.some_columns;
    }
