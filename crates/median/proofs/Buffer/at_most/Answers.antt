-- `median::Buffer::at_most` meets its contract. The invariant is of what is left: the count so far and that of the rest are that of all.
-- Assumes nothing.
use Rattle.std.proofs.Common.{◌≡◌, ℕ, ◌+◌, ◌≤◌, ◌<◌, Bool, true, false, cond, List, length, drop, refl, add-one, arith, drop_of_length-le, drop-cons}
use lib.Ieee.{Float, nan, le}
use mir.Val.{bool_byte}
use Rattle.median.specs.steps.Values.{float_at, floats_of}
use Rattle.median.specs.steps.Select.{at_most}
use Rattle.median.proofs.Values.{floats_at}
use Rattle.median.proofs.Buffer.at_most.Goals as goal

-- the rest begins with value i, and nothing is left in the end
rest : (t : Float) (v : List ℕ) (i : ℕ) → i < length (floats_of v)
    → at_most t (drop i (floats_of v)) ≡ bool_byte (le (float_at v i) t) + at_most t (drop (i + 1) (floats_of v))
unfolding at_most
rest t v i h =
    rw (add-one i, drop-cons (floats_of v) i nan h, floats_at v i h, byte (le (float_at v i) t))
  where
    byte : (b : Bool) → bool_byte b ≡ cond b 1 0
    byte true = refl
    byte false = refl

none_left : (t : Float) (v : List ℕ) (i : ℕ) → length (floats_of v) ≤ i → at_most t (drop i (floats_of v)) ≡ 0
unfolding at_most
none_left t v i h = rw (drop_of_length-le (floats_of v) {i = i} h)

byte_le : (b : Bool) → bool_byte b ≤ 1
byte_le true = omega arith
byte_le false = omega arith

pub loop-i-preserved : goal.loop-i-preserved
loop-i-preserved c =
    let l = c.loop-i in
    let v = c.args.self.halves.now in
    let t = c.args.t in
    let e : c.value.result ≡ float_at v l.i = c.value.ensures in
    record {
      few = omega (arith, c.from-n.ensures, byte_le (le c.value.result t));
      so_far = rw (c.from-n.ensures, e) (omega (arith, l.invariant.so_far, rest t v l.i (omega arith)));
    }

pub returns : goal.returns
returns c =
    let l = c.loop-i in
    omega (arith, l.invariant.so_far, none_left c.args.t c.args.self.halves.now l.i (omega arith))
