-- `growth::edges` meets its contract.
-- Assumes nothing.
use Rattle.std.proofs.Common.{◌≡◌, ℕ, ap, ◌∙◌, arith}
use Rattle.plane.specs.Plane.{bit, table}
use Rattle.plane.specs.Mask.{mask_of}
use Rattle.plane.proofs.Mask.{off_byte}
use Rattle.plane.proofs.InPlace.{changed-more, changed-end}
use Rattle.growth.specs.steps.Marks.{edge_test}
use Rattle.plane.proofs.Plane.{from_bool-bit}
use Rattle.growth.proofs.edges.Goals as goal

pub loop-i-preserved : goal.loop-i-preserved
unfolding edge_test
loop-i-preserved c =
    let l = c.loop-i in
    let a = c.args in
    let e : c.from.result ≡ bit (edge_test a.back.now a.shallow.now l.i) =
    rw (← off_byte a.back.now l.i, ← off_byte a.shallow.now l.i) (c.from.ensures ∙ from_bool-bit _) in
    changed-more 0 _ _ l.marks l.i c.from.result l.invariant (omega (arith, c.requires.marks_len)) e

pub returns : goal.returns
unfolding mask_of
returns c =
    let l = c.loop-i in
    let f : ℕ → ℕ = λ (k : ℕ). bit (edge_test c.args.back.now c.args.shallow.now k) in
    changed-end 0 f _ l.marks l.i l.invariant (omega (arith, c.requires.marks_len)) ∙ ap (table f 0) c.requires.marks_len
