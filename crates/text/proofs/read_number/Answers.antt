-- `text::read_number` meets its contract.
-- Assumes nothing.
use mathlib.Core.Path.{◌≡◌, sym, ap, ◌∙◌}
use mathlib.Core.List.{List}
use Prim.Native.Nat.{ℕ, ◌+◌, ◌-◌, ◌≤◌}
use native.Mathlib.Omega.{arith}
use lib.ListN.{length, take, drop, length-take}
use Rattle.text.specs.Decimal.{value_from, value_of, digits_upto, number_upto}
use Rattle.text.proofs.Decimal.{stand, digits-most}
use Rattle.text.proofs.read_number.Goals as goal

pub returns-then-n-eq0 : goal.returns-then-n-eq0
unfolding number_upto value_from
returns-then-n-eq0 c =
    let a = c.args in
    let e : digits_upto a.most a.text.now a.at ≡ 0 = sym c.digits-n.ensures ∙ c.if-n-eq0.true in
    rw e

-- the digits are inside the text
inside : (text : List ℕ) (most at n : ℕ) → n ≡ digits_upto most text at → (n ≡ 0 → ⊥) → at + n ≤ length text
inside text most at n e some = omega (arith, e, some, (stand text most at).inside (omega (arith, e, some)))

-- as many bytes as there are digits
part : (a : ℕ) {n k : ℕ} (text : List ℕ) → n ≡ k → take ((a + n) - a) (drop a text) ≡ take k (drop a text)
part a {n} {k} text e = let z : (a + n) - a ≡ k = omega arith in ap (λ (m : ℕ). take m (drop a text)) z

pub value-requires : goal.value-requires
value-requires c =
    let a = c.args in
    let most = digits-most a.text.now a.most a.at in
    rw (part a.at a.text.now c.digits-n.ensures)
    ((stand a.text.now a.most a.at).all, rw length-take (omega (arith, most, c.requires)))

pub returns : goal.returns
unfolding number_upto
returns c =
    let a = c.args in
    c.value.ensures ∙ ap value_of (part a.at a.text.now c.digits-n.ensures)

pub overflow_add-at : goal.overflow_add-at
overflow_add-at c =
    let l = inside c.args.text.now c.args.most c.args.at _ c.digits-n.ensures c.if-n-eq0.false in omega arith

pub slice_bounds-value-end : goal.slice_bounds-value-end
slice_bounds-value-end c = inside c.args.text.now c.args.most c.args.at _ c.digits-n.ensures c.if-n-eq0.false
