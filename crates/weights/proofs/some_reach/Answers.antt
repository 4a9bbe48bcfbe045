-- `weights::some_reach` meets its contract.
-- Assumes nothing.
use Rattle.std.proofs.Common.{false, ◌||◌, ◌∙◌, rules, tests}
use Rattle.std.proofs.lemmas.Iterator.{YieldsList-from_slice}
use Rattle.std.proofs.lemmas.Iterator.Consumers.{fold_from_yields_List}
use Rattle.plane.proofs.Search.{some_fold}
use Rattle.colour.specs.Settings.{on_of}
use Rattle.weights.proofs.some_reach.Goals as goal

pub returns : goal.returns
returns c =
    let alpha = c.args.alpha.now in
    fold_from_yields_List _ (λ found a. found || on_of a c.args.threshold) false c.fold.result c.fold.ensures.ran (YieldsList-from_slice alpha cc)
    (λ a x b q k. search (rules, tests))
    ∙ some_fold _ alpha
