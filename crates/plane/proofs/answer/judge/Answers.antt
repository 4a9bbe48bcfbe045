-- `plane::answer::judge` meets its contract.
-- Assumes nothing.
use mathlib.Core.Path.{sym, ap, ◌∙◌}
use Rattle.plane.specs.Refusal.{done_for}
use Rattle.plane.proofs.Refusal.{accepted}
use Rattle.plane.proofs.Judged.{declined-by, judged-holds, judged-fails, judged-all}
use Rattle.plane.proofs.answer.judge.Goals as goal

pub returns-then-not-holds : goal.returns-then-not-holds
returns-then-not-holds c =
    sym (declined-by _) ∙ ap done_for (sym (judged-fails _ _ _ c.loop-holds-test.true c.if-not-holds.true) ∙ c.loop-holds.invariant)

pub loop-holds-preserved : goal.loop-holds-preserved
loop-holds-preserved c = judged-holds _ _ _ c.loop-holds-test.true c.if-not-holds.false ∙ c.loop-holds.invariant

pub returns : goal.returns
returns c = sym (accepted _ _ (sym c.loop-holds.invariant ∙ judged-all _ _ c.loop-holds-test.false))
