-- `pam_header::is_numeral` meets its contract.
-- Assumes nothing.
use native.Mathlib.Omega.{arith}
use lib.ListN.{length}
use Rattle.pam_header.specs.Header.{is_numeral}
use Rattle.pam_header.proofs.Comparing.{first_same}
use Rattle.pam_header.proofs.Numbers.{all_each, some-long}
use Rattle.pam_header.proofs.is_numeral.Goals as goal

pub returns : goal.returns
unfolding is_numeral
returns c =
    let l = c.args.digits.now in
    rw (
      c.all_digits.ensures,
      all_each l,
      c.is_empty.ensures,
      some-long (length l),
      c.starts_with.ensures.value,
      first_same 48 l (λ e. omega (arith, e)),
    )
