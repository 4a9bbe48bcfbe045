-- `pam_header::read_header` meets its contract.
-- Assumes nothing.
use mathlib.Core.Path.{ap, ◌∙◌}
use mathlib.Core.List.{List}
use Prim.Native.Nat.{ℕ}
use lib.ListN.{take}
use Rattle.std.proofs.lemmas.List.{take_min}
use Rattle.pam_header.specs.Header.{lines_of, most_header, header_by, header_of}
use Rattle.pam_header.proofs.read_header.Goals as goal

-- as many bytes as a header may have, or all
pub returns : goal.returns
unfolding header_of
returns c =
    let input = c.args.input.now in
    c.header_in.ensures
    ∙ ap (λ (n : ℕ). header_by (lines_of (take n input))) c.min.ensures
    ∙ ap (λ (l : List ℕ). header_by (lines_of l)) (take_min most_header input)
