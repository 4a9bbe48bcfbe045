-- `keying::unmix_fringe` meets its contract.
-- Assumes nothing.
use mathlib.Core.Path.{◌≡◌, sym, ap, ◌∙◌}
use mir.Syntax.{w64}
use mir.Val.{to_z, of_z}
use borrow.Author.Rules.{rules}
use native.Mathlib.Omega.{arith}
use Rattle.std.proofs.lemmas.Result.{err_from_is_err_and}
use Rattle.plane.proofs.Refusal.{is-accepted, three-lines}
use Rattle.colour.specs.Settings.{at_least_zero}
use Rattle.keying.specs.Calls.{growth_buffers}
use Rattle.keying.proofs.Accepted.{growth-ok, growth-refused, growth-made}
use Rattle.keying.proofs.unmix_fringe.Goals as goal

pub returns-in_err-size : goal.returns-in_err-size
returns-in_err-size c =
    let a = c.args in
    let p = err_from_is_err_and c.from_residual.result c.from_residual.ensures.1 in
    rw (p.1, p.2)
    (growth-refused _ _ _ _ a.reference a.p (growth_buffers a.out.now a.nearest.now a.shallow.now a.deep.now a.marks.now)
    c.in_err-size.ensures.refusal)

pub copy-requires : goal.copy-requires
copy-requires c =
    let a = c.args in
    let b = growth_buffers a.out.now a.nearest.now a.shallow.now a.deep.now a.marks.now in
    let k = growth-ok c.in_ok-size.size _ _ _ _ a.reference b c.in_ok-size.ensures.size (is-accepted _ _ _ c.in_ok-size.ensures.refusal) in
    k.back_long ∙ sym k.out_long

pub grow-requires : goal.grow-requires
grow-requires c =
    let a = c.args in
    let size = c.in_ok-size.size in
    let b = growth_buffers a.out.now a.nearest.now a.shallow.now a.deep.now a.marks.now in
    let k = growth-ok size _ _ _ _ a.reference b c.in_ok-size.ensures.size (is-accepted _ _ _ c.in_ok-size.ensures.refusal) in
    record {
      colours_long = k.colours_long;
      nearest_long = three-lines _ _ _ size.sides k.nearest_long;
      shallow_long = omega (arith, k.shallow_long);
      deep_long = omega (arith, k.deep_long);
      marks_long = omega (arith, k.marks_long);
      back_long = c.copy.auto.to ∙ k.out_long;
    }

pub returns : goal.returns
returns c =
    let a = c.args in
    let s = c.in_ok-size.ensures.size in
    let t : to_z w64 (of_z w64 a.p) ≡ a.p = search rules in
    growth-made a.colours.now a.background.now a.h a.w a.reference a.p
    (growth_buffers a.out.now a.nearest.now a.shallow.now a.deep.now a.marks.now) _ _ _
    (is-accepted _ _ _ c.in_ok-size.ensures.refusal) (c.count_of-passes.ensures ∙ ap at_least_zero t) c.copy.ensures
    (rw (s.0, s.1) at c.grow.ensures)
