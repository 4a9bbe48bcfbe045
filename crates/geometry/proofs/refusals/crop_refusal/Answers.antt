-- `geometry::refusals::crop_refusal` meets its contract.
-- Assumes nothing.
use Rattle.std.proofs.lemmas.Result.{err_from_is_err_and}
use Rattle.plane.specs.steps.Judged.{tests_of}
use Rattle.plane.proofs.Refusal.{declined-so}
use Rattle.plane.proofs.Judged.{after-sides}
use Rattle.geometry.specs.Refusal.{crop_refusal}
use Rattle.geometry.proofs.refusals.crop_refusal.Goals as goal

pub returns-in_err-size : goal.returns-in_err-size
unfolding crop_refusal
returns-in_err-size c =
    let p = err_from_is_err_and c.from_residual.result c.from_residual.ensures.1 in
    rw (p.1, p.2) (declined-so _ _ c.in_err-size.ensures.refusal)

pub returns : goal.returns
unfolding crop_refusal tests_of
returns c =
    let s = c.in_ok-size.ensures in
    after-sides _ _ s.refusal (rw (← s.size.0, ← s.size.1, ← c.area.ensures) c.judge.ensures)
