-- `colour::block_ok` meets its contract.
-- Assumes nothing.
use Rattle.std.proofs.Common.{◌&&◌, true, ◌∙◌, rules, tests}
use Rattle.std.proofs.lemmas.Iterator.{YieldsList-from_slice}
use Rattle.std.proofs.lemmas.Iterator.Consumers.{fold_from_yields_List}
use Rattle.colour.specs.Colour.{colour_ok}
use Rattle.colour.proofs.Range.{colours-fold}
use Rattle.colour.proofs.block_ok.Goals as goal

pub returns : goal.returns
returns c =
    let l = c.args.colours.now in
    fold_from_yields_List _ (λ ok x. ok && colour_ok x) true c.fold.result c.fold.ensures.ran (YieldsList-from_slice l cc)
    (λ a x b q k. search (rules, tests))
    ∙ colours-fold true l
