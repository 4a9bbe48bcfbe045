-- `text::Page::number` meets its contract.
-- Assumes nothing.
use mathlib.Core.Path.{◌≡◌, sym, ap, ◌∙◌}
use mathlib.Core.List.{[], ◌∷◌}
use Prim.Native.Nat.{ℕ, ◌+◌, ◌%◌}
use native.Mathlib.Nat.{div-add-mod'}
use native.Mathlib.Omega.{arith}
use lib.ListN.{length}
use Rattle.text.proofs.Decimal.{decimal-one, decimal-more, length_more}
use Rattle.text.proofs.Written.{writes-more, writes_as}
use Rattle.text.proofs.Page.+number.Goals as goal
use Rattle.text.proofs.Page.+number.Goals.{then-n-ge10, else-n-ge10}

pub number-requires : goal.number-requires
number-requires t c =
    (omega (arith, div-add-mod' c.args.n 10), omega (arith, c.requires, length_more c.args.n c.if-n-ge10.true))

pub put-requires : goal.put-requires
put-requires t c =
    let n = c.args.n in
    elim c.if-n-ge10.branch [
      | then-n-ge10 w ↦ rw w.self-is (omega (arith, c.requires, length_more n w.if-n-ge10.true))
      | else-n-ge10 w ↦ rw w.self-is (omega (arith, c.requires, ap length (decimal-one n w.if-n-ge10.false)))
    ]

pub returns : goal.returns
returns t c =
    let n = c.args.n in
    elim c.if-n-ge10.branch [
      | then-n-ge10 w ↦ writes_as (sym (decimal-more n w.if-n-ge10.true)) (writes-more w.number.ensures (rw w.self-is at c.put.ensures))
      | else-n-ge10 w ↦
          let e : 48 + n % 10 ≡ 48 + n = omega (arith, div-add-mod' n 10, w.if-n-ge10.false) in
          writes_as (ap (λ (b : ℕ). b ∷ []) e ∙ sym (decimal-one n w.if-n-ge10.false)) (rw w.self-is at c.put.ensures)
    ]
