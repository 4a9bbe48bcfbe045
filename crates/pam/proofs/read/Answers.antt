-- `pam::read` meets its contract.
-- Assumes nothing.
use mathlib.Core.Path.{◌≡◌, sym, ◌∙◌}
use native.Mathlib.Nat.{mul-le-mul}
use native.Mathlib.Omega.{arith}
use mir.Facts.{Fits-le, Fits-lit}
use borrow.Author.Rules.{rules}
use borrow.Author.Tests.{eq-eqb, ne_eqb, le-leb, lt-leb}
use Rattle.std.proofs.Common.{Some, None}
use Rattle.std.proofs.lemmas.Result.{err_from_is_err_and}
use Rattle.plane.specs.declared.answer.Refusal.TheVariants as refusal
use Rattle.plane.specs.Refusal.{refusal_of}
use Rattle.pam.specs.steps.File.{file_refusal}
use Rattle.pam_header.specs.Header.{header_of}
use Rattle.pam_header.proofs.Sizes.{header-small}
use Rattle.pam.proofs.read.Goals as goal

pub returns-in_err-header-clause-number : goal.returns-in_err-header-clause-number
unfolding file_refusal refusal_of
returns-in_err-header-clause-number c =
    let p = err_from_is_err_and c.from_residual.result c.from_residual.ensures.1 in
    let none : header_of c.args.input.now ≡ None = sym c.read_header.ensures ∙ c.in_err-header.ensures.ok_part in
    let v = rw c.in_err-header.ensures.ok_part at c.in_err-header.ensures.value in
    let e : c.in_err-header.field-0.0 ≡ refusal.Header = cc in
    rw (p.1, p.2, e, none)

pub overflow_mul-n : goal.overflow_mul-n
overflow_mul-n c =
    let some : header_of c.args.input.now ≡ Some c.in_ok-header.header = search rules in
    let s = header-small c.args.input.now c.in_ok-header.header some in
    Fits-le (mul-le-mul s.height_most s.width_most) (Fits-lit tt)

pub returns-then-n-gt-MOST_PIXELS-clause-number : goal.returns-then-n-gt-MOST_PIXELS-clause-number
unfolding file_refusal refusal_of
returns-then-n-gt-MOST_PIXELS-clause-number c =
    let some : header_of c.args.input.now ≡ Some c.in_ok-header.header = search rules in
    rw (some, lt-leb _ _ c.if-n-gt-MOST_PIXELS.true)

pub overflow_add-end : goal.overflow_add-end
overflow_add-end c =
    let some : header_of c.args.input.now ≡ Some c.in_ok-header.header = search rules in
    omega (arith, (header-small c.args.input.now c.in_ok-header.header some).body_most)

pub returns-then-input-end-clause-number : goal.returns-then-input-end-clause-number
unfolding file_refusal refusal_of
returns-then-input-end-clause-number c =
    let some : header_of c.args.input.now ≡ Some c.in_ok-header.header = search rules in
    rw (some, le-leb _ _ c.if-n-gt-MOST_PIXELS.false, ne_eqb _ _ c.if-input-end.true)

pub returns-clause-number : goal.returns-clause-number
unfolding file_refusal refusal_of
returns-clause-number c =
    let some : header_of c.args.input.now ≡ Some c.in_ok-header.header = search rules in
    rw (some, le-leb _ _ c.if-n-gt-MOST_PIXELS.false, eq-eqb _ _ c.if-input-end.false)
