-- `text::value` meets its contract.
-- Assumes nothing.
use mathlib.Core.Path.{refl}
use Prim.Native.Nat.{ℕ, ◌+◌, ◌*◌, ◌^◌, ◌≤◌, ◌<◌}
use native.Mathlib.Nat.{pow-succ', pow-le-pow_right}
use native.Mathlib.Numerals.{add-one}
use native.Mathlib.Omega.{arith}
use lib.ListN.{length}
use Rattle.text.specs.Decimal.{value_from}
use Rattle.text.proofs.Decimal.{digit-is, digit_at, value-more}
use Rattle.text.proofs.value.Goals as goal

power-most : (i n : ℕ) → i < n → n ≤ 19 → 10 ^ i ≤ 1000000000000000000
power-most i n l m = pow-le-pow_right {n = 10} (omega arith) {i = i} {j = 18} (omega arith)

pub loop-b-init : goal.loop-b-init
unfolding value_from
loop-b-init c = (refl, omega arith)

pub overflow_mul-v : goal.overflow_mul-v
overflow_mul-v c =
    let l = c.loop-b in
    omega (arith, l.invariant.1, power-most l.b-index (length c.args.digits.now) (omega arith) c.requires.1)

pub overflow_sub-b : goal.overflow_sub-b
overflow_sub-b c = (digit-is _ (digit_at c.args.digits.now c.loop-b.b-index c.requires.0 (omega arith))).least

pub overflow_add-v : goal.overflow_add-v
overflow_add-v c =
    let l = c.loop-b in
    let d = digit-is _ (digit_at c.args.digits.now l.b-index c.requires.0 (omega arith)) in
    omega (arith, c.from.ensures, d.most, l.invariant.1, power-most l.b-index (length c.args.digits.now) (omega arith) c.requires.1)

pub loop-b-preserved : goal.loop-b-preserved
loop-b-preserved c =
    let l = c.loop-b in
    let d = digit-is _ (digit_at c.args.digits.now l.b-index c.requires.0 (omega arith)) in
    let g : 10 * l.v + c.from.result < 10 * 10 ^ l.b-index = omega (arith, c.from.ensures, d.most, l.invariant.1) in
    let more = value-more c.args.digits.now l.b-index (omega arith) in
    (omega (arith, c.from.ensures, more, l.invariant.0), rw (add-one l.b-index, pow-succ' 10 l.b-index) g)
