-- `plane::any` meets its contract.
-- Assumes nothing.
use Rattle.std.proofs.Common.{false, not, ◌||◌, eqb, ◌∙◌, rules, tests}
use Rattle.std.proofs.lemmas.Iterator.{YieldsList-from_slice}
use Rattle.std.proofs.lemmas.Iterator.Consumers.{fold_from_yields_List}
use Rattle.plane.specs.Plane.{on}
use Rattle.plane.specs.Mask.{is_on}
use Rattle.plane.proofs.Search.{some_fold}
use Rattle.plane.proofs.any.Goals as goal

pub returns : goal.returns
unfolding is_on on
returns c =
    let m = c.args.mask.now in
    fold_from_yields_List _ (λ found b. found || not (eqb b 0)) false c.fold.result c.fold.ensures.ran (YieldsList-from_slice m cc)
    (λ a x b q k. search (rules, tests))
    ∙ some_fold _ m
