-- `weights::on_weights` meets its contract.
-- Assumes nothing.
use lib.Ieee.{nan}
use borrow.Author.Rules.{rules}
use Rattle.plane.proofs.Plane.{table_is}
use Rattle.weights.specs.steps.Weight.{on_weight}
use Rattle.weights.proofs.on_weights.Goals as goal

pub returns : goal.returns
returns c =
    let e = c.from_fn.ensures.items in
    table_is on_weight 256 c.from_fn.result nan e.long (λ k l. let called = (e.at k nan l).2 in search rules)
