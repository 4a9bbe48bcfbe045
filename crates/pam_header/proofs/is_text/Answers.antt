-- `pam_header::is_text` meets its contract.
-- Assumes nothing.
use Rattle.pam_header.proofs.Comparing.{text_same}
use Rattle.pam_header.proofs.is_text.Goals as goal

pub returns : goal.returns
returns c = text_same c.args.text.now c.args.line.now c.eq.result c.eq.ensures
