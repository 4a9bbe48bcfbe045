-- `row_counts::run` meets its contract. The loop's invariant: v is the byte after x steps, and the pixels before x are written.
-- Assumes nothing.
use Rattle.std.proofs.Common.{◌≡◌, ℕ, ◌+◌, ◌%◌, length, get_or, ap, ◌∙◌, add-one, arith}
use Rattle.plane.specs.Plane.{on, bit}
use Rattle.plane.specs.Mask.{mask_of}
use Rattle.plane.proofs.Plane.{from_bool-bit}
use Rattle.counts.specs.steps.Parts.{full_byte}
use Rattle.row_counts.specs.steps.Rows.{tally, ran_line}
use Rattle.counts.proofs.Begun.{begun-none, begun_more, begun-end}
use Rattle.row_counts.proofs.run.Goals as goal

pub loop-x-init : goal.loop-x-init
unfolding tally
loop-x-init c = record {
  small = omega (arith, c.min-b.ensures);
  value = omega (arith, c.min-b.ensures);
  written = begun-none c.requires.size;
}

pub loop-x-preserved : goal.loop-x-preserved
unfolding on tally
loop-x-preserved c =
    let l = c.loop-x in
    let steps = c.args.steps.now in
    let b = full_byte c.args.n in
    let v : (l.v + get_or steps l.x 0) % 256 ≡ tally steps b (l.x + 1) =
    rw (add-one l.x) (ap (λ (u : ℕ). (u + get_or steps l.x 0) % 256) l.invariant.value) in
    record {
      small = omega arith;
      value = v;
      written = begun_more l.invariant.written (omega arith) (c.from.ensures ∙ from_bool-bit _ ∙ ap (λ (u : ℕ). bit (on u)) v);
    }

pub returns : goal.returns
unfolding ran_line mask_of
returns c =
    let l = c.loop-x in
    let e : l.x ≡ length c.args.steps.now = omega arith in
    let v = l.invariant.value in
    record {
      value = omega (arith, c.min-b.ensures, c.from-2.ensures, rw e at v);
      out_after = begun-end l.invariant.written (omega arith);
    }
