-- `pam_header::header_in` meets its contract.
-- Assumes nothing.
use mathlib.Core.Path.{◌≡◌, sym, ◌∙◌}
use Prim.Native.Nat.{◌-◌}
use native.Mathlib.Omega.{arith}
use lib.ListN.{length}
use Rattle.std.proofs.Common.{None, Some}
use Rattle.pam_header.proofs.Lines.{nothing-seen, read_from, first_is, first-not, read-nothing, read-line, read-end, read_on}
use Rattle.pam_header.proofs.header_in.Goals as goal

pub returns-in_err-rest : goal.returns-in_err-rest
returns-in_err-rest c = c.from_residual.ensures ∙ sym (first-not c.args.front.now c.in_err-rest.ensures.cases)

pub loop-end-init : goal.loop-end-init
loop-end-init c =
    let front = c.args.front.now in
    let rest = c.in_ok-rest.rest.now in
    let g = c.in_ok-rest.ensures.cases in
    let none = nothing-seen c.default-seen.result c.default-seen.ensures in
    let n : length front - length rest ≡ 3 = omega (arith, g.2) in
    (omega (arith, g.2), rw (none, n, g.1) (first_is front g.0))

pub returns : goal.returns
returns c =
    let l = c.loop-end in
    read-nothing c.args.front.now l.rest.now l.seen (sym c.line_end.ensures ∙ c.in_default.is) _ ∙ l.invariant.1

pub returns-then-is_text : goal.returns-then-is_text
returns-then-is_text c =
    let l = c.loop-end in
    let read = read-line c.args.front.now l.rest.now l.seen c.in-Some.end (sym c.line_end.ensures ∙ c.in-Some.is) l.invariant.0 in
    let yes = sym c.is_text.ensures ∙ c.if-is_text.true in
    c.header_from.ensures ∙ read-end _ _ _ _ _ read yes ∙ l.invariant.1

pub returns-in_err-seen : goal.returns-in_err-seen
unfolding read_from
returns-in_err-seen c =
    let l = c.loop-end in
    let read = read-line c.args.front.now l.rest.now l.seen c.in-Some.end (sym c.line_end.ensures ∙ c.in-Some.is) l.invariant.0 in
    let no = sym c.is_text.ensures ∙ c.if-is_text.false in
    let none = sym c.with_line.ensures ∙ c.in_err-seen.was in
    c.from_residual-in_err-seen.ensures ∙ read_on _ _ _ _ _ None read no none ∙ l.invariant.1

pub loop-end-preserved : goal.loop-end-preserved
loop-end-preserved c =
    let l = c.loop-end in
    let read = read-line c.args.front.now l.rest.now l.seen c.in-Some.end (sym c.line_end.ensures ∙ c.in-Some.is) l.invariant.0 in
    let no = sym c.is_text.ensures ∙ c.if-is_text.false in
    let some = sym c.with_line.ensures ∙ c.in_ok-seen.was in
    (omega (arith, read.shorter, l.invariant.0), read_on _ _ _ _ _ (Some c.in_ok-seen.seen) read no some ∙ l.invariant.1)
