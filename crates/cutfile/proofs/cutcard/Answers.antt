-- `cutfile::cutcard` meets its contract.
-- Assumes nothing.
use mathlib.Core.Path.{◌≡◌, sym, ap, ◌∙◌}
use native.Mathlib.Omega.{arith}
use Rattle.std.proofs.Common.{Option}
use Rattle.plane.specs.Refusal.{number_of}
use Rattle.plane.proofs.Refusal.{number-some}
use Rattle.pam_header.specs.declared.Header.{Header}
use Rattle.pam_header.specs.Header.{header_of}
use Rattle.pam.specs.steps.File.{file_refusal}
use Rattle.pbm.proofs.Lengths.{refusal-short}
use Rattle.cutfile.specs.Cutcard.{text_under}
use Rattle.cutfile.proofs.Texts.{card-declined, card-picture, file-small, whole}
use Rattle.cutfile.proofs.cutcard.Goals as goal

pub write_refusal-requires : goal.write_refusal-requires
write_refusal-requires c =
    let input = c.args.input.now in
    let short = refusal-short (number_of c.in-Err.refusal) (omega (arith, c.in-Err.ensures.number, file-small input (header_of input))) in
    rw c.into.ensures (omega (arith, short, c.if-out-lt-MOST_TEXT.false))

pub returns-in-Ok : goal.returns-in-Ok
returns-in-Ok c =
    let input = c.args.input.now in
    let e = c.in-Ok.ensures in
    let passed = ap (λ (h : Option Header). file_refusal h input) e.header ∙ sym e.number in
    let card = card-picture c.in-Ok.header input passed in
    whole _ _ _ _ _ (omega (arith, c.if-out-lt-MOST_TEXT.false)) (card ∙ ap (λ (h : Option Header). text_under h input) e.header)
    c.write_picture.ensures

pub returns-in-Err : goal.returns-in-Err
returns-in-Err c =
    let input = c.args.input.now in
    let n = number_of c.in-Err.refusal in
    let some : n ≡ 0 → ⊥ = λ e. (let s = number-some c.in-Err.refusal in omega arith) in
    whole _ _ _ _ _ (omega (arith, c.if-out-lt-MOST_TEXT.false)) (card-declined input (header_of input) n c.in-Err.ensures.number some)
    (rw c.into.ensures at c.write_refusal.ensures)
