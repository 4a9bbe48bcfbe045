-- `geometry::square_distance` meets its contract.
-- Assumes nothing.
use mathlib.Core.Path.{◌∙◌}
use Rattle.std.proofs.lemmas.Result.{err_from_is_err_and}
use Rattle.plane.proofs.Refusal.{is-accepted, three-lines}
use Rattle.geometry.proofs.Accepted.{plane-refused, plane-made, plane-ok, distances-fit}
use Rattle.geometry.proofs.square_distance.Goals as goal

pub returns-in_err-size : goal.returns-in_err-size
returns-in_err-size c =
    let p = err_from_is_err_and c.from_residual.result c.from_residual.ensures.1 in
    rw (p.1, p.2) (plane-refused c.in_err-size.ensures.refusal)

pub invariant_of-nearest_distances : goal.invariant_of-nearest_distances
invariant_of-nearest_distances c =
    record { whole = (plane-ok c.in_ok-size.size _ _ _ _ _ c.in_ok-size.ensures.size (is-accepted _ _ _ c.in_ok-size.ensures.refusal)).input }

pub nearest_distances-requires : goal.nearest_distances-requires
nearest_distances-requires c =
    let size = c.in_ok-size.size in
    let k = plane-ok size _ _ _ _ _ c.in_ok-size.ensures.size (is-accepted _ _ _ c.in_ok-size.ensures.refusal) in
    record { room = three-lines _ _ _ size.sides k.room; out_long = k.output; low = distances-fit _ _ k.within }

pub returns : goal.returns
returns c =
    let s = c.in_ok-size.ensures.size in
    plane-made (is-accepted _ _ _ c.in_ok-size.ensures.refusal) (c.nearest_distances.ensures ∙ rw (s.0, s.1))
