-- `refusals::growth_refusal` meets its contract.
-- Assumes nothing.
use Rattle.plane.specs.steps.Judged.{tests_of}
use Rattle.std.proofs.lemmas.Result.{err_from_is_err_and}
use Rattle.plane.proofs.Refusal.{is-accepted, declined-so}
use Rattle.outline.specs.Refusal.{growth_refusal}
use Rattle.refusals.proofs.Laws.{growth-first}
use Rattle.refusals.proofs.growth_refusal.Goals as goal

pub returns-in_err-size-clause-refusal : goal.returns-in_err-size-clause-refusal
unfolding growth_refusal
returns-in_err-size-clause-refusal c =
    let p = err_from_is_err_and c.from_residual.result c.from_residual.ensures.1 in
    rw (p.1, p.2) (declined-so _ _ c.in_err-size.ensures.refusal)

pub returns-in_err-judge-clause-refusal : goal.returns-in_err-judge-clause-refusal
unfolding tests_of
returns-in_err-judge-clause-refusal c =
    let p = err_from_is_err_and c.from_residual-in_err-judge.result c.from_residual-in_err-judge.ensures.1 in
    let a = c.args in
    let e = growth-first a.colours.now a.back a.h a.w a.reference a.out a.work.nearest a.work.shallow a.work.deep a.work.marks (is-accepted _ _ _ c.in_ok-size.ensures.refusal) in
    rw (p.1, p.2, e, ← c.colours_ok.ensures.answer, ← c.rgb_ok.ensures) c.in_err-judge.ensures

pub returns-clause-refusal : goal.returns-clause-refusal
unfolding tests_of
returns-clause-refusal c =
    let a = c.args in
    let e = growth-first a.colours.now a.back a.h a.w a.reference a.out a.work.nearest a.work.shallow a.work.deep a.work.marks (is-accepted _ _ _ c.in_ok-size.ensures.refusal) in
    rw (e, ← c.colours_ok.ensures.answer, ← c.rgb_ok.ensures) c.in_ok-judge.ensures
