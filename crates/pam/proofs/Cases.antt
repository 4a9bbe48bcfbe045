-- One input for each number by which a file is declined, computed from the definitions.
-- Assumes nothing.
use mathlib.Core.Bool.{Bool}
use mathlib.Core.List.{List, [], ◌∷◌, ◌++◌}
use Prim.Native.Nat.{ℕ}
use lib.Dec.{T, eqb}
use lib.ListN.{replicate}
use Rattle.plane.specs.Refusal.{refusal_of}
use Rattle.text.specs.Decimal.{is_digit, all_digits, value_from}
use Rattle.pam_header.specs.Header.{in_front, lines_of, count_of, starts_at, is_text, is_numeral, is_side, is_skipped, is_other}
use Rattle.pam_header.specs.Header.{width_name}
use Rattle.pam_header.specs.Header.{field_lines, fields_ok, side_from, side_in, bytes_of, are_lines_ok, header_by, header_of}
use Rattle.pam_header.specs.HeaderText.{text_of, header_text}
use Rattle.pam_header.proofs.Cases.{all, white, wide, tall, others}
use Rattle.pam.specs.steps.File.{file_refusal}

number : List ℕ → ℕ
number input = file_refusal (header_of input) input

files : List Bool
files =
    -- 8: no bytes
    eqb (number []) 8
    -- 10 before 9: 12 by 99999, with no pixel
    ∷ eqb (number (header_text ((width_name ++ replicate 5 57) ∷ tall ∷ others))) 10
    -- 9: a byte missing, a byte left over
    ∷ eqb (number (header_text (wide ∷ tall ∷ others) ++ white 239)) 9
    ∷ eqb (number (header_text (wide ∷ tall ∷ others) ++ white 241)) 9
    -- an empty line after ENDHDR is a byte of the pixels
    ∷ eqb (number (header_text (wide ∷ tall ∷ others) ++ (10 ∷ white 240))) 9
    -- accepted
    ∷ eqb (number (header_text (wide ∷ tall ∷ others) ++ white 240)) 0
    ∷ []

files-hold : T (all files)
unfolding files all white wide tall others number is_digit all_digits value_from
    in_front lines_of count_of starts_at is_text is_numeral is_side is_skipped is_other
    field_lines fields_ok side_from side_in bytes_of are_lines_ok header_by header_of
    text_of header_text refusal_of file_refusal
files-hold = tt
