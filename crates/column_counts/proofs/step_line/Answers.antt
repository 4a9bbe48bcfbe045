-- `column_counts::step_line` meets its contract. The loop's invariant: the bytes before x are changed, and the pixels before x written.
-- Assumes nothing.
use Rattle.std.proofs.Common.{◌≡◌, ℕ, ◌+◌, ◌-◌, ◌%◌, length, get_or, sym, ap, ◌∙◌, le_refl, arith}
use Rattle.plane.specs.Plane.{on, bit}
use Rattle.plane.specs.Mask.{is_on, mask_of}
use Rattle.plane.proofs.Plane.{from_bool-bit}
use Rattle.plane.proofs.Mask.{mask-same}
use Rattle.plane.proofs.InPlace.{changed-none, changed-more, changed-end}
use Rattle.counts.proofs.Begun.{begun-none, begun_more, begun-end}
use Rattle.counts.proofs.Parts.{changed-add, changed-sub}
use Rattle.column_counts.proofs.Strips.{twice_moved, twice-moved}
use Rattle.column_counts.proofs.step_line.Goals as goal

pub loop-x-init : goal.loop-x-init
loop-x-init c = record { low = changed-none 0 _ _; out = begun-none c.requires.out_size }

pub loop-x-preserved : goal.loop-x-preserved
unfolding is_on on
loop-x-preserved c =
    let l = c.loop-x in
    let a = c.args in
    let old = l.invariant.low.back l.x (le_refl l.x) in
    let made : ((get_or l.low l.x 0 + c.from.result) % 256 + (256 - c.from-in-loop-x.result)) % 256
    ≡ twice_moved a.enter.now a.leave.now a.low.now l.x =
    rw (old, c.from.ensures, c.from-in-loop-x.ensures, changed-add _ _) (changed-sub _ _) in
    record {
      low = changed-more 0 _ _ l.low l.x _ l.invariant.low (omega (arith, c.requires.low_size)) made;
      out = begun_more l.invariant.out (omega arith) (c.from-in-loop-x-2.ensures ∙ from_bool-bit _ ∙ ap (λ (v : ℕ). bit (on v)) made);
    }

pub returns : goal.returns
unfolding mask_of is_on
returns c =
    let l = c.loop-x in
    record {
      low_after = changed-end 0 _ _ l.low l.x l.invariant.low (omega (arith, c.requires.low_size)) ∙ sym (twice-moved _ _ _);
      out_after =
          begun-end l.invariant.out (omega arith)
          ∙ rw (sym c.requires.low_size)
          (mask-same (length c.args.low.now) _ _ (λ i g. ap on (sym (l.invariant.low.front i (omega (arith, c.requires.low_size))))));
    }
