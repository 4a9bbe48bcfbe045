-- `growth::pass` meets its contract.
-- Assumes nothing.
use Rattle.std.proofs.Common.{◌∙◌}
use Rattle.growth.proofs.Marks.{joins-some, joins-pass}
use Rattle.growth.proofs.pass.Goals as goal

pub returns-clause-back_after : goal.returns-clause-back_after
returns-clause-back_after c =
    let p = c.args.photo in
    c.settle.ensures.back_after
    ∙ joins-pass p.colours.now p.reference p.size.h p.size.w c.args.back.now _ _ _ c.lay.ensures _ c.decide.ensures _ c.requires.back_long

pub returns-clause-value : goal.returns-clause-value
returns-clause-value c =
    let p = c.args.photo in
    c.settle.ensures.value
    ∙ joins-some p.colours.now p.reference p.size.h p.size.w c.args.back.now _ _ _ c.lay.ensures _ c.decide.ensures _ c.requires.back_long
