-- `geometry::feature_transform` meets its contract.
-- Assumes nothing.
use mathlib.Core.Path.{refl, sym, ◌∙◌}
use Rattle.std.proofs.lemmas.Result.{err_from_is_err_and}
use Rattle.plane.proofs.Refusal.{accepted, is-accepted, is-declined, written, kept}
use Rattle.geometry.proofs.Accepted.{nearest-ok}
use Rattle.geometry.proofs.feature_transform.Goals as goal

pub returns-in_err-size : goal.returns-in_err-size
returns-in_err-size c =
    let p = err_from_is_err_and c.from_residual.result c.from_residual.ensures.1 in
    let e = c.in_err-size.ensures.refusal in
    let d = is-declined _ _ _ e in
    rw (p.1, p.2) (record { answer = e; rows_are = sym (kept _ _ _ d); cols_are = sym (kept _ _ _ d); kept = λ _. refl })

pub invariant_of-nearest_planes : goal.invariant_of-nearest_planes
invariant_of-nearest_planes c =
    record { whole = (nearest-ok c.in_ok-size.size _ _ _ _ _ _ c.in_ok-size.ensures.size (is-accepted _ _ _ c.in_ok-size.ensures.refusal)).input }

pub nearest_planes-requires : goal.nearest_planes-requires
nearest_planes-requires c =
    let k = nearest-ok c.in_ok-size.size _ _ _ _ _ _ c.in_ok-size.ensures.size (is-accepted _ _ _ c.in_ok-size.ensures.refusal) in
    record { room = k.room; rows_long = k.rows_long; cols_long = k.cols_long }

pub returns : goal.returns
returns c =
    let s = c.in_ok-size.ensures.size in
    let z = is-accepted _ _ _ c.in_ok-size.ensures.refusal in
    record {
      answer = sym (accepted _ _ z);
      rows_are = c.nearest_planes.ensures.rows_after ∙ rw (s.0, s.1) (sym (written _ _ _ z));
      cols_are = c.nearest_planes.ensures.cols_after ∙ rw (s.0, s.1) (sym (written _ _ _ z));
      kept = λ bad. absurd (bad z);
    }
