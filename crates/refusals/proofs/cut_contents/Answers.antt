-- `refusals::cut_contents` meets its contract.
-- Assumes nothing.
use mathlib.Core.Path.{◌≡◌, refl}
use mir.Syntax.{w64}
use mir.Val.{to_z, of_z}
use borrow.Author.Rules.{rules}
use Rattle.plane.specs.steps.Judged.{tests_of}
use Rattle.std.proofs.lemmas.Result.{err_from_is_err_and}
use Rattle.plane.proofs.Refusal.{is-accepted, declined-so, passed_first}
use Rattle.outline.specs.Refusal.{picture_tests, cut_contents}
use Rattle.refusals.proofs.Laws.{alpha-searched}
use Rattle.refusals.proofs.cut_contents.Goals as goal

pub returns-in_err-picture_refusal : goal.returns-in_err-picture_refusal
unfolding cut_contents
returns-in_err-picture_refusal c =
    let p = err_from_is_err_and c.from_residual.result c.from_residual.ensures.1 in
    rw (p.1, p.2) (declined-so _ _ c.in_err-picture_refusal.ensures)

-- once the picture is accepted, the alpha decides
pub returns : goal.returns
unfolding cut_contents picture_tests tests_of
returns c =
    let z = c.args.s.alpha_threshold in
    let t : to_z w64 (of_z w64 z) ≡ z = search rules in
    let e = rw t at c.some_reach.ensures in
    rw (passed_first _ _ refl (is-accepted _ _ _ c.in_ok-picture_refusal.ensures), ← alpha-searched c.args.alpha.now _ c.args.s, ← e) c.judge.ensures
