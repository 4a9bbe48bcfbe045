-- `geometry::binary_dilation8` meets its contract.
-- Assumes nothing.
use mathlib.Core.Path.{refl, ◌∙◌}
use mathlib.Core.Logic.{inr}
use native.Mathlib.Omega.{arith}
use Rattle.std.proofs.lemmas.Result.{err_from_is_err_and}
use Rattle.plane.proofs.Refusal.{is-accepted}
use Rattle.geometry.proofs.Accepted.{plane-refused, plane-made, plane-ok}
use Rattle.geometry.proofs.binary_dilation8.Goals as goal

pub returns-in_err-size : goal.returns-in_err-size
returns-in_err-size c =
    let p = err_from_is_err_and c.from_residual.result c.from_residual.ensures.1 in
    rw (p.1, p.2)
    (record { called = plane-refused c.in_err-size.ensures.refusal; places = record { size = refl; each = λ i. inr refl } })

pub invariant_of-dilate : goal.invariant_of-dilate
invariant_of-dilate c =
    record { whole = (plane-ok c.in_ok-size.size _ _ _ _ _ c.in_ok-size.ensures.size (is-accepted _ _ _ c.in_ok-size.ensures.refusal)).input }

pub dilate-requires : goal.dilate-requires
dilate-requires c =
    let k = plane-ok c.in_ok-size.size _ _ _ _ _ c.in_ok-size.ensures.size (is-accepted _ _ _ c.in_ok-size.ensures.refusal) in
    record { out_size = k.output; work_size = omega (arith, k.room) }

pub returns : goal.returns
returns c =
    let s = c.in_ok-size.ensures.size in
    record {
      called = plane-made (is-accepted _ _ _ c.in_ok-size.ensures.refusal) (c.dilate.ensures.out_after ∙ rw (s.0, s.1));
      places = c.dilate.ensures.bit_or_old;
    }
