-- `weights::on_weight` meets its contract.
-- Assumes nothing.
use Rattle.std.proofs.Common.{◌≡◌, max, cond, eqb, ap, ◌∙◌, rules, tests}
use Rattle.colour.specs.Weight.{weight_of}
use Rattle.weights.specs.steps.Weight.{on_weight}
use Rattle.weights.proofs.on_weight.Goals as goal

pub returns : goal.returns
unfolding on_weight
returns c =
    let alpha = c.args.alpha in
    let least : max alpha 1 ≡ cond (eqb alpha 0) 1 alpha = search (rules, tests) in
    c.weight.ensures ∙ ap weight_of (c.max.ensures ∙ least)
