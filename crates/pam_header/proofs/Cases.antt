-- Headers that are accepted, with their sides, and headers that are not, computed from the definitions.
-- Assumes nothing.
use mathlib.Core.Bool.{Bool, true, false, ◌&&◌}
use mathlib.Core.List.{List, [], ◌∷◌, ◌++◌}
use Prim.Native.Nat.{ℕ}
use lib.Dec.{T, eqb}
use lib.ListN.{replicate}
use Rattle.std.specs.Option.{is_none}
use Rattle.std.proofs.Common.{Option, Some, None}
use Rattle.text.specs.Decimal.{is_digit, all_digits, digits_upto, value_from, number_upto}
use Rattle.pam_header.specs.declared.Header.{Header}
use Rattle.pam_header.specs.Header.{in_front, lines_of, count_of, starts_at, is_text, is_numeral, is_side, is_skipped, is_other}
use Rattle.pam_header.specs.Header.{first_text, width_name, height_name, depth_text, maxval_text, tupltype_text, end_text}
use Rattle.pam_header.specs.Header.{field_lines, fields_ok, side_from, side_in, bytes_of, are_lines_ok, header_by, header_of}
use Rattle.pam_header.specs.EarlierHeader.{is_number, middle_at, height_at, tail_at, body_at, width_of, height_of, earlier_ok, earlier_of}
use Rattle.pam_header.specs.HeaderText.{text_of, header_text}

unfoldable pub all : List Bool → Bool
all [] = true
all (t ∷ l) = t && all l

-- n bytes 255
unfoldable pub white : ℕ → List ℕ
white n = replicate n 255

-- "WIDTH 5", "HEIGHT 12", and the other three fields
unfoldable pub wide : List ℕ
wide = width_name ++ (53 ∷ [])

unfoldable pub tall : List ℕ
tall = height_name ++ (49 ∷ 50 ∷ [])

unfoldable pub others : List (List ℕ)
others = depth_text ∷ maxval_text ∷ tupltype_text ∷ []

-- a comment of n bytes, and one that holds ENDHDR, a carriage return, 0 and 255
comment : ℕ → List ℕ
comment n = 35 ∷ replicate n 46

strange : List ℕ
strange = 35 ∷ end_text ++ (13 ∷ 0 ∷ 255 ∷ [])

-- what a header says is this
says : Option Header → ℕ → ℕ → ℕ → Bool
says None h w body = false
says (Some header) h w body = eqb header.height h && eqb header.width w && eqb header.body body

-- the header with these lines is accepted, with 12 rows of 5 pixels after so many bytes
accepts : List (List ℕ) → ℕ → Bool
accepts lines body = says (header_of (header_text lines ++ white 240)) 12 5 body

declines : List (List ℕ) → Bool
declines lines = is_none (header_of (header_text lines))

headers : List Bool
headers =
    -- the first order, the sides in the other order, the sides last
    accepts (wide ∷ tall ∷ others) 66
    ∷ accepts (tall ∷ wide ∷ others) 66
    ∷ accepts (others ++ (tall ∷ wide ∷ [])) 66
    -- comments and empty lines
    ∷ accepts ([] ∷ tall ∷ strange ∷ wide ∷ [] ∷ [] ∷ (others ++ (comment 0 ∷ []))) 82
    -- skipped before P7: declined
    ∷ is_none (header_of (10 ∷ header_text (wide ∷ tall ∷ others)))
    ∷ is_none (header_of (35 ∷ 10 ∷ header_text (wide ∷ tall ∷ others)))
    -- one field missing, twice, behind a blank, with a comment behind it; a line of a blank or a carriage return; another line
    ∷ declines (wide ∷ others)
    ∷ declines (wide ∷ tall ∷ wide ∷ others)
    ∷ declines (wide ∷ tall ∷ depth_text ∷ others)
    ∷ declines ((32 ∷ wide) ∷ tall ∷ others)
    ∷ declines (wide ∷ (tall ++ (32 ∷ 35 ∷ [])) ∷ others)
    ∷ declines (wide ∷ (32 ∷ []) ∷ tall ∷ others)
    ∷ declines (wide ∷ (13 ∷ []) ∷ tall ∷ others)
    ∷ declines (wide ∷ first_text ∷ tall ∷ others)
    -- a leading 0, six digits, none
    ∷ declines ((width_name ++ (48 ∷ 53 ∷ [])) ∷ tall ∷ others)
    ∷ declines ((width_name ++ replicate 6 49) ∷ tall ∷ others)
    ∷ declines (width_name ∷ tall ∷ others)
    -- 4096 bytes, and 4097
    ∷ accepts (comment 4028 ∷ wide ∷ tall ∷ others) 4096
    ∷ is_none (header_of (header_text (comment 4029 ∷ wide ∷ tall ∷ others)))
    -- no newline after ENDHDR
    ∷ is_none (header_of (text_of (first_text ∷ wide ∷ tall ∷ others) ++ end_text))
    -- the header that was accepted at first, and what it said
    ∷ says (earlier_of (header_text (wide ∷ tall ∷ others))) 12 5 66
    ∷ is_none (earlier_of (header_text (tall ∷ wide ∷ others)))
    ∷ []

headers-hold : T (all headers)
unfolding headers all white wide tall others comment strange says accepts declines is_digit all_digits digits_upto value_from number_upto
    in_front lines_of count_of starts_at is_text is_numeral is_side is_skipped is_other
    field_lines fields_ok side_from side_in bytes_of are_lines_ok header_by header_of
    is_number middle_at height_at tail_at body_at width_of height_of earlier_ok earlier_of text_of header_text
headers-hold = tt
