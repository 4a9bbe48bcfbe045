-- `geometry::fill::colours_from` meets its contract. The loop's invariant: the pixels before i are right, and the rest is as it was.
-- Assumes nothing.
use mathlib.Core.Path.{◌≡◌, refl, sym, ap, ◌∙◌}
use mathlib.Core.List.{List, [], append-nil}
use Prim.Native.Nat.{ℕ, ◌+◌, ◌*◌, ◌-◌, ◌≤◌, ◌<◌}
use native.Mathlib.Omega.{arith}
use lib.ListN.{length, drop, drop_of_length-le}
use borrow.Rule.Slice.PartMut.{same_len_mid}
use Rattle.std.specs.Prelude.{Option}
use Rattle.std.specs.Borrow.{Bor}
use Rattle.plane.specs.declared.size.Size.{Size}
use Rattle.plane.specs.Plane.{rows_upto, plane_of}
use Rattle.plane.proofs.Plane.{row_in, area-most, put-row}
use Rattle.geometry.specs.steps.Source.{source_at, colours_from, Reads}
use Rattle.geometry.proofs.Filling.{colour_row, colour-keeps, colour-is, last_row, source_in}
use Rattle.geometry.proofs.fill.colours_from.Goals as goal

-- the pixel that is read, and that it lies in the picture
record Named (h w from named : ℕ) : Type 0 where
  source_is : from ≡ named
  inside : from < h * w
  little : h * w ≤ 4294967296

named : {colours out : List ℕ} (size : Size) (indices : Option (Bor (List ℕ))) (i from : ℕ) → Reads colours size indices out
    → i < size.h * size.w → from ≡ source_at indices (size.h * size.w - size.w) i
    → Named size.h size.w from (source_at indices ((size.h - 1) * size.w) i)
named size indices i from r l e =
    let s = size.sides in
    let n = e ∙ ap (λ (k : ℕ). source_at indices k i) (sym (last_row size.h size.w s.some_rows)) in
    let m = source_in size indices i r l in
    let a = area-most {h = size.h} {w = size.w} s.tall s.wide in
    record { source_is = n; inside = omega arith; little = omega arith }

pub overflow_sub-last : goal.overflow_sub-last
overflow_sub-last c =
    let size = c.args.size in
    let r = row_in 0 size.h size.w size.sides.some_rows in omega (arith, c.area.ensures)

pub source-s-requires : goal.source-s-requires
source-s-requires c = λ plane e. (c.requires.inside c.loop-i.i (omega (arith, c.area-i-end.ensures)) plane e).0

pub loop-i-preserved : goal.loop-i-preserved
loop-i-preserved c =
    let l = c.loop-i in
    let a = c.args in
    let call = c.copy_from_slice in
    let k = named a.size a.indices l.i c.source-s.result c.requires (omega arith) (c.source-s.ensures ∙ rw c.area.ensures) in
    let s = 3 * c.source-s.result in
    let e : l.i * 3 + 3 - l.i * 3 ≡ 3 = omega arith in
    let d : s + 3 - s ≡ 3 = omega arith in
    let row = colour_row a.colours.now a.size a.indices in
    let long : 3 * c.source-s.result + 3 ≤ length a.colours.now = omega (arith, k.inside, c.requires.colours_long) in
    let copied : call.new.self ≡ row l.i = call.ensures.after ∙ rw d (colour-is _ _ _ l.i _ k.source_is long) in (
      same_len_mid (l.i * 3) (l.i * 3 + 3 - l.i * 3) l.out call.new.self call.auto.self ∙ l.invariant.0,
      put-row row 3 (colour-keeps _ _ _) l.i _ a.out.now l.out call.new.self l.invariant.1 e copied,
    )

pub returns : goal.returns
unfolding colours_from plane_of colour_row
returns c =
    let l = c.loop-i in
    let a = c.args in
    let e : l.i ≡ a.size.h * a.size.w = omega arith in
    let n = a.size.h * a.size.w * 3 in
    let d : drop n a.out.now ≡ [] = drop_of_length-le a.out.now {i = n} (omega (arith, c.requires.out_long)) in
    l.invariant.1 ∙ rw (e, d, append-nil)

pub loop-i-init : goal.loop-i-init
loop-i-init c = (refl, unfold rows_upto in refl)
