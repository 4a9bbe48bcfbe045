-- `labels::scan` meets its contract. The loop's invariant: the rows above row y are scanned.
-- Assumes nothing.
use Rattle.std.proofs.Common.{refl, zero-mul, arith}
use Rattle.labels.proofs.Scanning.{none-scanned}
use Rattle.labels.proofs.scan.Goals as goal

pub loop-y-init : goal.loop-y-init
loop-y-init c =
    let a = c.args in
    let w = a.mask.size.w in
    record {
      so_far = rw (zero-mul w) (none-scanned a.mask.pixels.now a.labels.now a.parents.now a.mask.size.h w (omega (arith, c.requires.room)));
      same_buffer = record { reference = refl; size = refl };
    }
