-- `labels::LabelTrees::join` meets its contract.
-- Assumes nothing.
use Rattle.std.proofs.Common.{arith}
use Rattle.labels.proofs.Forests.{roots-in, linked}
use Rattle.labels.proofs.LabelTrees.join.Goals as goal

pub find-y-requires-clause-trees : goal.find-y-requires-clause-trees
find-y-requires-clause-trees c =
    let t = c.requires.trees in
    rw c.find-x.ensures.same_count record { rep = t.rep; forest = c.find-x.ensures.found.same_trees t.rep t.forest }

pub bounds-self-greater : goal.bounds-self-greater
bounds-self-greater c =
    let found = rw c.find-x.ensures.same_count at c.find-y.ensures.found in
    omega (arith, roots-in c.requires c.find-x.ensures.found found)

pub returns-clause-linked : goal.returns-clause-linked
returns-clause-linked c =
    let found = rw c.find-x.ensures.same_count at c.find-y.ensures.found in
    linked c.requires c.find-x.ensures.found found (omega arith) (omega arith)
