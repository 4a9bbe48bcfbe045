-- `median::Buffer::least_above` meets its contract. The values from i on are read.
-- Assumes nothing.
use Rattle.std.proofs.Common.{◌≡◌, ℕ, ◌+◌, ◌-◌, ◌<◌, List, length, drop, sym, ◌∙◌, add-one, arith, drop_of_length-le, drop-cons}
use lib.Ieee.{Float, nan, of_bits}
use Rattle.median.specs.steps.Values.{float_at, floats_of}
use Rattle.median.specs.steps.Select.{nearer, least_above}
use Rattle.median.proofs.Values.{floats_at}
use Rattle.median.proofs.Buffer.least_above.Goals as goal

-- the values from i on begin with value i
front : (t : Float) (v : List ℕ) (i : ℕ) → i < length (floats_of v)
    → least_above t (drop i (floats_of v)) ≡ nearer t (float_at v i) (least_above t (drop (i + 1) (floats_of v)))
unfolding least_above
front t v i h =
    rw (add-one i, drop-cons (floats_of v) i nan h, floats_at v i h)

pub loop-i-init : goal.loop-i-init
unfolding least_above of_bits
loop-i-init c =
    let v = c.args.self.halves.now in
    rw (drop_of_length-le (floats_of v) {i = c.count-i.result} (omega arith))

pub loop-i-preserved : goal.loop-i-preserved
loop-i-preserved c =
    let l = c.loop-i in
    let t = c.args.t in
    let v = c.args.self.halves.now in
    let read : c.value.result ≡ float_at v (l.i - 1) = c.value.ensures in
    let next : l.i - 1 + 1 ≡ l.i = omega arith in
    let more = rw next at (front t v (l.i - 1) (omega arith)) in
    c.nearer_of-least.ensures ∙ rw (read, l.invariant) (sym more)

pub returns : goal.returns
returns c =
    let l = c.loop-i in
    let all : l.i ≡ 0 = omega arith in
    rw all at l.invariant
