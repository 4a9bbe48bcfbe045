-- `geometry::fill_transparent` meets its contract.
-- Assumes nothing.
use mathlib.Core.Path.{◌≡◌, ◌∙◌}
use native.Mathlib.Omega.{arith}
use lib.ListN.{length-take, take}
use Rattle.std.proofs.lemmas.Result.{err_from_is_err_and}
use Rattle.plane.proofs.Refusal.{is-accepted}
use Rattle.nearest.specs.steps.Indices.{indices_plane}
use Rattle.geometry.proofs.Accepted.{plane-refused, plane-made, fill-ok}
use Rattle.geometry.proofs.Filling.{named_are, filled_is}
use Rattle.geometry.proofs.fill_transparent.Goals as goal

pub returns-in_err-size : goal.returns-in_err-size
returns-in_err-size c =
    let p = err_from_is_err_and c.from_residual.result c.from_residual.ensures.1 in
    rw (p.1, p.2) (plane-refused c.in_err-size.ensures.refusal)

pub invariant_of-nearest_indices : goal.invariant_of-nearest_indices
invariant_of-nearest_indices c =
    record { whole = (fill-ok c.in_ok-size.size _ _ _ _ _ _ c.in_ok-size.ensures.size (is-accepted _ _ _ c.in_ok-size.ensures.refusal)).input }

pub nearest_indices-requires : goal.nearest_indices-requires
nearest_indices-requires c =
    (fill-ok c.in_ok-size.size _ _ _ _ _ _ c.in_ok-size.ensures.size (is-accepted _ _ _ c.in_ok-size.ensures.refusal)).room

pub slice_bounds-then_some-end : goal.slice_bounds-then_some-end
slice_bounds-then_some-end c =
    let k = fill-ok c.in_ok-size.size _ _ _ _ _ _ c.in_ok-size.ensures.size (is-accepted _ _ _ c.in_ok-size.ensures.refusal) in
    omega (arith, k.room, c.area.ensures, c.nearest_indices.auto.work)

pub slice_bounds-then_some-end-2 : goal.slice_bounds-then_some-end-2
slice_bounds-then_some-end-2 c =
    let k = fill-ok c.in_ok-size.size _ _ _ _ _ _ c.in_ok-size.ensures.size (is-accepted _ _ _ c.in_ok-size.ensures.refusal) in
    let work = c.nearest_indices.new.work in
    simp length-take (omega (arith, k.room, c.area.ensures, c.nearest_indices.auto.work))

pub colours_from-requires : goal.colours_from-requires
colours_from-requires c =
    let size = c.in_ok-size.size in
    let k = fill-ok size _ _ _ _ _ _ c.in_ok-size.ensures.size (is-accepted _ _ _ c.in_ok-size.ensures.refusal) in
    let front : take c.area.result c.nearest_indices.new.work ≡ indices_plane c.args.mask.now size.h size.w =
    rw c.area.ensures c.nearest_indices.ensures in
    record {
      colours_long = k.colours_long;
      out_long = k.output;
      inside = λ i l plane e. named_are _ size _ _ plane _ c.then_some-indices.ensures front i l e;
    }

pub returns : goal.returns
returns c =
    let size = c.in_ok-size.size in
    let s = c.in_ok-size.ensures.size in
    let z = is-accepted _ _ _ c.in_ok-size.ensures.refusal in
    let k = fill-ok size _ _ _ _ _ _ s z in
    plane-made z (c.colours_from.ensures ∙ rw (c.then_some-indices.ensures, c.any.ensures, k.input) (filled_is _ _ size _ (rw c.area.ensures c.nearest_indices.ensures) ∙ rw (s.0, s.1)))
