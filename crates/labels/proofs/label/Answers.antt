-- `labels::label` meets its contract.
-- Assumes nothing.
use Rattle.std.proofs.Common.{◌∙◌}
use Rattle.labels.proofs.Numbers.{roots-all, numbers-are, labels-stay}
use Rattle.labels.proofs.label.Goals as goal

pub returns-then-n-m : goal.returns-then-n-m
returns-then-n-m c =
    let whole = c.args.mask.whole in
    let n = c.flatten-n.ensures in
    let long = c.scan-m.auto.labels ∙ c.requires.output in
    record {
      value = n.count ∙ roots-all whole c.scan-m.ensures;
      labels_after = labels-stay whole c.scan-m.ensures n c.if-n-m.true long;
    }

pub returns : goal.returns
returns c =
    let whole = c.args.mask.whole in
    let n = c.flatten-n.ensures in
    let long = c.scan-m.auto.labels ∙ c.requires.output in
    record {
      value = n.count ∙ roots-all whole c.scan-m.ensures;
      labels_after = numbers-are whole c.scan-m.ensures n long c.rename.auto.labels c.rename.ensures;
    }
