-- `text::digits` meets its contract.
-- Assumes nothing.
use mathlib.Core.Path.{◌≡◌, sym}
use Prim.Native.Nat.{◌-◌}
use native.Mathlib.Omega.{arith}
use lib.ListN.{length, take, drop, length-drop}
use lib.Seq.{take_all}
use Rattle.text.proofs.Decimal.{digits-past, digits-counted}
use Rattle.text.proofs.digits.Goals as goal

pub returns-then-text-at : goal.returns-then-text-at
returns-then-text-at c = sym (digits-past c.args.text.now c.args.most c.args.at (omega arith))

pub returns : goal.returns
returns c =
    let a = c.args in
    let text = a.text.now in
    let rest : take (length text - a.at) (drop a.at text) ≡ drop a.at text = take_all (length text - a.at) (drop a.at text) (rw length-drop (omega arith)) in
    digits-counted a.most text a.at c.min.result c.leading_digits.result (rw rest at c.min.ensures) (rw rest at c.leading_digits.ensures)
