-- `plane::answer::judge`: the invariant of its loop.
-- Assumes nothing.
use Rattle.std.proofs.Common.{◌≡◌, drop}
use Rattle.plane.specs.Refusal.{refusal_of}
use Rattle.plane.specs.steps.Judged.{tests_of}
use Rattle.plane.proofs.answer.judge.Given as goal

-- the tests that are left decide
abbrev pub invariant-loop-holds : goal.invariant-loop-holds
invariant-loop-holds l = refusal_of (tests_of (drop l.holds-index l.fn.tests)) ≡ refusal_of (tests_of l.fn.tests)
