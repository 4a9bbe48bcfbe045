-- `column_counts::follow` meets its contract.
-- Assumes nothing.
use Rattle.std.proofs.Common.{refl, ◌∙◌}
use Rattle.counts.specs.declared.Change.TheVariants.{Enters, Leaves}
use Rattle.column_counts.proofs.Strips.{moved_length, row-moved, rows-followed}
use Rattle.column_counts.proofs.follow.Goals as goal

pub returns-in-Some-Some : goal.returns-in-Some-Some
returns-in-Some-Some c =
    let s = c.args.strip in
    let long = moved_length c.row.result.now 1 c.args.low.now in
    let enters = row-moved s Enters c.in-Some-Some.is-0 c.requires.size c.row.ensures.value refl in
    let leaves = row-moved s Leaves c.in-Some-Some.is-1 (long ∙ c.requires.size) c.row-in-Some-Some.ensures.value c.step_line.ensures.low_after in
    rows-followed s c.args.y c.then_some-enter.ensures c.checked_sub-leave.ensures long enters leaves c.step_line.ensures.out_after

pub returns-in_default : goal.returns-in_default
returns-in_default c =
    let one = c.move_row in
    let two = c.move_row-in_default in
    rows-followed c.args.strip c.args.y c.then_some-enter.ensures c.checked_sub-leave.ensures one.auto.low one.ensures two.ensures
    (c.test_line.ensures ∙ rw (two.auto.low, one.auto.low))
