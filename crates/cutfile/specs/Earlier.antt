-- What cutcard answered at first, when it accepted the lines of a header in one order only. It is kept for the law that every file
-- which was accepted then still prints the same bytes (R80). No contract cites it.
-- Assumes nothing.
use Rattle.std.specs.Prelude.{ℕ, List}
use Rattle.pam_header.specs.EarlierHeader.{earlier_of}
use Rattle.cutfile.specs.Cutcard.{refusal_under, text_under}

-- the number of an input's refusal, and what was printed for it (R80)
abbrev pub earlier_refusal : List ℕ → ℕ
earlier_refusal input = refusal_under (earlier_of input) input

abbrev pub earlier_text : List ℕ → List ℕ
earlier_text input = text_under (earlier_of input) input
