-- `pam_header::is_skipped` meets its contract.
-- Assumes nothing.
use native.Mathlib.Omega.{arith}
use Rattle.pam_header.specs.Header.{is_skipped}
use Rattle.pam_header.proofs.Comparing.{first_same}
use Rattle.pam_header.proofs.is_skipped.Goals as goal

pub returns : goal.returns
unfolding is_skipped
returns c = rw (c.is_empty.ensures, c.starts_with.ensures.value, first_same 35 c.args.line.now (λ e. omega (arith, e)))
