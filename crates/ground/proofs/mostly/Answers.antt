-- `ground::mostly` meets its contract. The loop's invariant: `count` and what of the rest of the border list is on make the whole.
-- Assumes nothing.
use Rattle.std.proofs.Common.{◌≡◌, ℕ, ◌+◌, ◌≤◌, ◌<◌, not, eqb, List, length, get_or, drop, add-one, ◌∙◌, arith, drop_of_length-le, drop-cons}
use Rattle.plane.specs.Plane.{on, bit}
use Rattle.plane.specs.Mask.{is_on}
use Rattle.plane.proofs.Plane.{from_bool-bit, bit-most}
use Rattle.outline.specs.Border.{border_list}
use Rattle.outline.specs.Ground.{count_on}
use Rattle.ground.proofs.mostly.Goals as goal

-- the rest of a list begins with its pixel k, and is nothing in the end
rest : (mask l : List ℕ) (k : ℕ) {i : ℕ} → k < length l → i ≡ get_or l k 0
    → count_on mask (drop k l) ≡ bit (not (eqb (get_or mask i 0) 0)) + count_on mask (drop (k + 1) l)
unfolding count_on is_on on bit
rest mask l k h e = rw (drop-cons l k 0 h, add-one k, e)

none_left : (mask l : List ℕ) (k : ℕ) → length l ≤ k → count_on mask (drop k l) ≡ 0
unfolding count_on
none_left mask l k h = rw (drop_of_length-le l {i = k} h)

pub loop-k-preserved : goal.loop-k-preserved
unfolding bit
loop-k-preserved c =
    let l = c.loop-k in
    let mask = c.args.mask in
    let test = not (eqb (get_or mask.pixels.now c.border_pixel-i.result 0) 0) in
    let more = rest mask.pixels.now (border_list mask.size.h mask.size.w) l.k (omega arith) c.border_pixel-i.ensures in
    let added : c.from-count.result ≡ bit test = c.from-count.ensures ∙ from_bool-bit test in
    record {
      few = omega (arith, bit-most test);
      so_far = omega (arith, l.invariant.so_far);
    }

pub returns : goal.returns
returns c =
    let l = c.loop-k in
    let pixels = c.args.mask.pixels.now in
    let border = border_list c.args.mask.size.h c.args.mask.size.w in
    let e : l.count ≡ count_on pixels border = omega (arith, l.invariant.so_far, none_left pixels border l.k (omega arith)) in
    rw (c.border_count-total.ensures, e)
