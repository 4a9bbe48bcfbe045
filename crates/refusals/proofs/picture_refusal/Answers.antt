-- `refusals::picture_refusal` meets its contract.
-- Assumes nothing.
use Rattle.std.proofs.Common.{◌≡◌, refl, List, [], ◌∷◌}
use Rattle.std.proofs.lemmas.Result.{err_from_is_err_and}
use Rattle.plane.specs.Refusal.{Test}
use Rattle.plane.specs.steps.Judged.{tests_of}
use Rattle.plane.proofs.Refusal.{is-accepted, declined-so, passed_first}
use Rattle.card.specs.Card.{is_readable}
use Rattle.card.specs.steps.Named.{defined_card}
use Rattle.outline.specs.Refusal.{picture_tests}
use Rattle.refusals.proofs.picture_refusal.Goals as goal

pub returns-in_err-judge : goal.returns-in_err-judge
unfolding picture_tests tests_of
returns-in_err-judge c =
    let p = err_from_is_err_and c.from_residual.result c.from_residual.ensures.1 in
    let judged : c.readable.result ≡ is_readable (defined_card c.args.card) = c.readable.ensures in
    rw (p.1, p.2, ← judged) (declined-so _ _ c.in_err-judge.ensures)

-- once the card is accepted, the colours and the tolerance decide
pub returns : goal.returns
unfolding picture_tests tests_of
returns c =
    let judged : c.readable.result ≡ is_readable (defined_card c.args.card) = c.readable.ensures in
    let us : List Test = (4, c.colours_ok.result) ∷ (5, c.is_finite.result) ∷ [] in
    let first = passed_first ((11, c.readable.result) ∷ []) us refl (is-accepted _ _ _ c.in_ok-judge.ensures) in
    rw (← judged, ← c.colours_ok.ensures.answer, ← c.is_finite.ensures, first) c.judge-2.ensures
