-- `labels::LabelTrees::place` meets its contract.
-- Assumes nothing.
use Rattle.std.proofs.Common.{arith}
use Rattle.labels.specs.steps.Trees.{Joinable}
use Rattle.labels.proofs.Forests.{linked-in}
use Rattle.labels.proofs.LabelTrees.place.Goals as goal

pub returns-in_default-2-clause-count_after : goal.returns-in_default-2-clause-count_after
returns-in_default-2-clause-count_after c =
    let p = c.requires in
    let g : Joinable _ _ _ _ = record { trees = p.trees; a_some = omega arith; a_in = p.left_in; b_some = omega arith; b_in = p.up_in } in
    omega (arith, linked-in g c.join.ensures.linked)
