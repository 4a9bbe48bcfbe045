-- `weights::weigh` meets its contract.
-- Assumes nothing.
use Rattle.std.proofs.Common.{ap, ◌∙◌, List, get_or, eq-eqb, ne_eqb, arith}
use lib.Ieee.{Float, nan, of_bits}
use Rattle.plane.specs.Plane.{on}
use Rattle.plane.proofs.Plane.{table_at}
use Rattle.weights.specs.steps.Weight.{on_weight, weight_for}
use Rattle.weights.proofs.weigh.Goals as goal

pub returns-then-m-eq0 : goal.returns-then-m-eq0
unfolding weight_for on of_bits
returns-then-m-eq0 c = rw (eq-eqb _ _ c.if-m-eq0.true)

pub returns-else-m-eq0 : goal.returns-else-m-eq0
unfolding weight_for on
returns-else-m-eq0 c =
    let n = c.args.alpha in
    let entry = ap (λ (l : List Float). get_or l n nan) c.requires ∙ table_at on_weight 256 n nan (omega arith) in
    rw (ne_eqb _ _ c.if-m-eq0.false, c.from.ensures) entry
