-- `bounds::first` meets its contract.
-- Assumes nothing.
use Rattle.std.proofs.Common.{not, eqb, ◌∙◌, rules, tests}
use Rattle.std.proofs.lemmas.Iterator.{YieldsList-from_slice}
use Rattle.std.proofs.lemmas.Iterator.Search.{position_from_yields_List}
use Rattle.plane.specs.Plane.{on}
use Rattle.plane.specs.Mask.{is_on}
use Rattle.bounds.proofs.Rows.{first_position}
use Rattle.bounds.proofs.first.Goals as goal

pub returns : goal.returns
unfolding is_on on
returns c =
    let line = c.args.line.now in
    let found = position_from_yields_List (λ b. not (eqb b 0)) _ _ c.position.result c.position.ensures.ran (YieldsList-from_slice line cc)
    (λ x b q k. search (rules, tests)) in
    found ∙ first_position _ line
