-- `plane::some_off` meets its contract.
-- Assumes nothing.
use Rattle.std.proofs.Common.{false, ◌||◌, eqb, ◌∙◌, length, rules, tests}
use Rattle.std.proofs.lemmas.Iterator.{YieldsList-from_slice}
use Rattle.std.proofs.lemmas.Iterator.Consumers.{fold_from_yields_List}
use Rattle.plane.specs.Mask.{some_off}
use Rattle.plane.proofs.Search.{some_fold, some_same}
use Rattle.plane.proofs.Mask.{off_byte}
use Rattle.plane.proofs.some_off.Goals as goal

pub returns : goal.returns
unfolding some_off
returns c =
    let m = c.args.mask.now in
    fold_from_yields_List _ (λ found b. found || eqb b 0) false c.fold.result c.fold.ensures.ran (YieldsList-from_slice m cc)
    (λ a x b q k. search (rules, tests))
    ∙ some_fold _ m
    ∙ some_same _ _ (length m) (λ i l. off_byte m i)
