-- `pbm::write_refusal` meets its contract.
-- Assumes nothing.
use borrow.Author.Rules.{rules}
use native.Mathlib.Omega.{arith}
use Rattle.text.proofs.Written.{writes-more}
use mathlib.Core.Path.{ap}
use Prim.Native.Nat.{ℕ}
use lib.ListN.{length}
use Rattle.text.specs.Decimal.{decimal}
use Rattle.pbm.specs.Text.{refusal_text}
use Rattle.pbm.proofs.Lengths.{refusal-long}
use Rattle.pbm.proofs.write_refusal.Goals as goal

pub copy-requires : goal.copy-requires
copy-requires c = omega (arith, c.requires, refusal-long c.args.n)

pub number-requires : goal.number-requires
number-requires c =
    let e = ap (λ (n : ℕ). length (decimal n)) c.from.ensures in
    omega (arith, c.requires, e, refusal-long c.args.n)

pub put-requires : goal.put-requires
put-requires c =
    let e = ap (λ (n : ℕ). length (decimal n)) c.from.ensures in
    omega (arith, c.requires, e, refusal-long c.args.n)

pub returns : goal.returns
unfolding refusal_text
returns c =
    let all = writes-more (writes-more c.copy.ensures c.number.ensures) c.put.ensures in
    search (rules, all.same_buffer, all.wrote)
