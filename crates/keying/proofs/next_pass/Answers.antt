-- `keying::next_pass` meets its contract.
-- Assumes nothing.
use Rattle.std.proofs.lemmas.Result.{err_from_is_err_and}
use Rattle.keying.proofs.NextPassLaws.{looked, not-looked, as_long}
use Rattle.keying.proofs.next_pass.Goals as goal

pub returns-in_err-unmix_fringe : goal.returns-in_err-unmix_fringe
returns-in_err-unmix_fringe c =
    let p = err_from_is_err_and c.from_residual.result c.from_residual.ensures.1 in
    rw (p.1, p.2) (not-looked _ _ _ _ _ _ c.in_err-unmix_fringe.ensures)

pub newly_on-requires : goal.newly_on-requires
newly_on-requires c = as_long _ _ _ _ _ _ c.in_ok-unmix_fringe.ensures

pub returns : goal.returns
returns c = looked _ _ _ _ _ _ c.in_ok-unmix_fringe.ensures _ c.newly_on.ensures
