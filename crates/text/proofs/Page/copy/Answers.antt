-- `text::Page::copy` meets its contract.
-- Assumes nothing.
use mathlib.Core.Path.{refl}
use Prim.Native.Nat.{◌+◌, ◌-◌}
use native.Mathlib.Omega.{arith}
use lib.ListN.{length}
use Rattle.text.proofs.Written.{part-sets, writes}
use Rattle.text.proofs.Page.copy.Goals as goal

pub returns : goal.returns
returns c =
    let page = c.args.self.now in
    let text = c.args.text.now in
    let k = page.at + length text - page.at in
    let over = part-sets page.out.now text page.at k (omega arith) (omega (arith, c.requires)) in
    writes refl (record { end_is = refl; bytes_are = rw c.copy_from_slice.ensures.after over })
