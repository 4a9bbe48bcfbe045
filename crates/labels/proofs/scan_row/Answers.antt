-- `labels::scan_row` meets its contract. The loop's invariant: the pixels before x have labels, and `left` and `diag` are those beside x.
-- Assumes nothing.
use Rattle.std.proofs.Common.{◌≡◌, ◌+◌, ◌*◌, refl, ◌∙◌, arith}
use Rattle.labels.specs.steps.Trees.{left_at, diag_at}
use Rattle.labels.proofs.Scanning.{still-given, placeable, row_next}
use Rattle.labels.proofs.scan_row.Goals as goal

pub loop-x-init : goal.loop-x-init
unfolding left_at diag_at
loop-x-init c =
    let e : c.args.y * c.args.mask.size.w + 0 ≡ c.args.y * c.args.mask.size.w = omega arith in
    record {
      so_far = rw e c.requires.so_far;
      to_left = refl;
      above_left = refl;
      same_buffer = record { reference = refl; size = refl };
    }

pub place-l-requires : goal.place-l-requires
place-l-requires c =
    let l = c.loop-x in
    let i = l.invariant in
    let g = still-given c.requires.given i.same_buffer.size l.auto.labels in
    placeable c.args.mask g c.args.y l.x l.trees.count c.requires.row c.loop-x-test.true i.so_far i.to_left c.upper-up.ensures

pub loop-x-preserved : goal.loop-x-preserved
loop-x-preserved c =
    let l = c.loop-x in
    let i = l.invariant in
    let f = c.place-l.ensures in
    let g = still-given c.requires.given i.same_buffer.size l.auto.labels in
    let more = row_next c.args.mask g c.args.y l.x l.trees.count c.requires.row c.loop-x-test.true i.so_far c.place-l.result in
    let n = more i.to_left c.upper-up.ensures i.above_left f.placed in
    record {
      so_far = rw f.count_after n.0;
      to_left = n.1;
      above_left = n.2;
      same_buffer = record {
        reference = f.same_buffer.reference ∙ i.same_buffer.reference;
        size = f.same_buffer.size ∙ i.same_buffer.size;
      };
    }
