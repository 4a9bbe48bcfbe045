-- The refusal of a file by its header and its length alone.
-- Assumes nothing.
use Rattle.std.specs.Prelude.{ℕ, List, Option}
use Rattle.plane.specs.Refusal.{refusal_of}
use Rattle.pam_header.specs.declared.Header.{Header}
use Rattle.pam.specs.Picture.{file_tests}

unfoldable pub file_refusal : Option Header → List ℕ → ℕ
file_refusal header input = refusal_of (file_tests header input)
