-- `pam_header::side` meets its contract.
-- Assumes nothing.
use mathlib.Core.Path.{◌≡◌, sym, ap, ◌∙◌}
use mathlib.Core.Bool.{true, false}
use Rattle.std.proofs.Common.{Some}
use Rattle.text.specs.Decimal.{value_of}
use Rattle.pam_header.specs.Header.{is_numeral, is_side}
use Rattle.pam_header.proofs.Sides.{side-not, side-front}
use Rattle.pam_header.proofs.Numbers.{number-all}
use Rattle.pam_header.proofs.side.Goals as goal

pub returns-in_err-digits : goal.returns-in_err-digits
returns-in_err-digits c =
    let no = side-not c.args.name.now c.args.line.now c.in_err-digits.ensures.cases in c.from_residual.ensures ∙ rw no

pub returns-then-not-is_numeral : goal.returns-then-not-is_numeral
returns-then-not-is_numeral c =
    let a = c.args in
    let g = c.in_ok-digits.ensures.cases in
    let no : is_side a.name.now a.line.now ≡ false =
    side-front a.name.now a.line.now g.0 ∙ ap is_numeral (sym g.1) ∙ sym c.is_numeral.ensures ∙ c.if-not-is_numeral.true in
    rw no

pub returns : goal.returns
returns c =
    let a = c.args in
    let g = c.in_ok-digits.ensures.cases in
    let number = sym c.is_numeral.ensures ∙ c.if-not-is_numeral.false in
    let yes : is_side a.name.now a.line.now ≡ true = side-front a.name.now a.line.now g.0 ∙ ap is_numeral (sym g.1) ∙ number in
    rw yes (ap Some (c.read_number.ensures ∙ number-all _ number ∙ ap value_of g.1))
