-- `refusals::growth_lengths` meets its contract.
-- Assumes nothing.
use Rattle.std.proofs.lemmas.Result.{err_from_is_err_and}
use Rattle.plane.specs.steps.Judged.{tests_of}
use Rattle.plane.proofs.Refusal.{declined-so}
use Rattle.plane.proofs.Judged.{after-sides}
use Rattle.outline.specs.Refusal.{work_tests, growth_lengths}
use Rattle.refusals.proofs.growth_lengths.Goals as goal

pub returns-in_err-size-clause-refusal : goal.returns-in_err-size-clause-refusal
unfolding growth_lengths work_tests
returns-in_err-size-clause-refusal c =
    let p = err_from_is_err_and c.from_residual.result c.from_residual.ensures.1 in
    rw (p.1, p.2) (declined-so _ _ c.in_err-size.ensures.refusal)

pub returns-in_err-judge-clause-refusal : goal.returns-in_err-judge-clause-refusal
unfolding growth_lengths work_tests tests_of
returns-in_err-judge-clause-refusal c =
    let p = err_from_is_err_and c.from_residual-in_err-judge.result c.from_residual-in_err-judge.ensures.1 in
    let s = c.in_ok-size.ensures in
    rw (p.1, p.2) (after-sides _ _ s.refusal (rw (← s.size.0, ← s.size.1, ← c.room-room.ensures, ← c.area-n.ensures) c.in_err-judge.ensures))

pub returns-clause-refusal : goal.returns-clause-refusal
unfolding growth_lengths work_tests tests_of
returns-clause-refusal c =
    let s = c.in_ok-size.ensures in
    after-sides _ _ s.refusal (rw (← s.size.0, ← s.size.1, ← c.room-room.ensures, ← c.area-n.ensures) c.in_ok-judge.ensures)
