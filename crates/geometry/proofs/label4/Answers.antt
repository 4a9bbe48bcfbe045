-- `geometry::label4` meets its contract.
-- Assumes nothing.
use mathlib.Core.Path.{refl, sym, ap, ◌∙◌}
use native.Mathlib.Omega.{arith}
use Rattle.std.proofs.Common.{Ok}
use Rattle.std.proofs.lemmas.Result.{err_from_is_err_and}
use Rattle.plane.proofs.Refusal.{accepted, is-accepted, is-declined, same-refusal, written, kept}
use Rattle.geometry.proofs.Accepted.{plane-ok, few-pixels}
use Rattle.geometry.proofs.label4.Goals as goal

pub returns-in_err-size : goal.returns-in_err-size
returns-in_err-size c =
    let p = err_from_is_err_and c.from_residual.result c.from_residual.ensures.1 in
    let e = c.in_err-size.ensures.refusal in
    rw (p.1, p.2)
    (record { answer = same-refusal _ _ _ _ e; labels_are = sym (kept _ _ _ (is-declined _ _ _ e)); kept = λ _. refl })

pub invariant_of-label : goal.invariant_of-label
invariant_of-label c =
    record { whole = (plane-ok c.in_ok-size.size _ _ _ _ _ c.in_ok-size.ensures.size (is-accepted _ _ _ c.in_ok-size.ensures.refusal)).input }

pub label-requires : goal.label-requires
label-requires c =
    let k = plane-ok c.in_ok-size.size _ _ _ _ _ c.in_ok-size.ensures.size (is-accepted _ _ _ c.in_ok-size.ensures.refusal) in
    record { few = few-pixels _ _ k.within; output = k.output; room = omega (arith, k.room) }

pub returns : goal.returns
returns c =
    let s = c.in_ok-size.ensures.size in
    let z = is-accepted _ _ _ c.in_ok-size.ensures.refusal in
    record {
      answer = ap Ok (c.label.ensures.value ∙ rw (s.0, s.1)) ∙ sym (accepted _ _ z);
      labels_are = c.label.ensures.labels_after ∙ rw (s.0, s.1) (sym (written _ _ _ z));
      kept = λ bad. absurd (bad z);
    }
