-- `text::Page::number` calls itself for a tenth of the number, so the number is the measure.
-- Assumes nothing.
use Rattle.text.proofs.Page.+number.Given as goal

abbrev pub decreases-number : goal.decreases-number
decreases-number l = l.n
