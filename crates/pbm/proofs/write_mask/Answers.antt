-- `pbm::write_mask` meets its contract.
-- Assumes nothing.
use mathlib.Core.Path.{sym}
use borrow.Author.Rules.{rules}
use Rattle.text.proofs.Written.{writes-more}
use Rattle.pbm.specs.Text.{mask_text}
use Rattle.pbm.proofs.write_mask.Goals as goal

pub returns : goal.returns
unfolding mask_text
returns c =
    let all = writes-more (writes-more c.crop_lines.ensures c.size_line.ensures) c.pixels.ensures in
    rw (sym c.requires.mask_len.1) (search (rules, all.same_buffer, all.wrote))
