-- The header that cutcard accepted at first: its lines in one order, and none skipped. It is kept for the law that every file which
-- was accepted then still prints the same bytes (R80). Past the end of the input every byte is read as 0, which no text holds.
-- Assumes nothing.
use Rattle.std.specs.Prelude.{ℕ, ◌+◌, Bool, cond, not, ◌&&◌, List, [], ◌∷◌, eqb, leb, length, get_or, Option, Some, None}
use Rattle.text.specs.Decimal.{digits_upto, number_upto}
use Rattle.pam_header.specs.declared.Header.{Header}
use Rattle.pam_header.specs.Header.{starts_at, most_digits}

-- "P7\nWIDTH " (R80)
abbrev pub width_text : List ℕ
width_text = 80 ∷ 55 ∷ 10 ∷ 87 ∷ 73 ∷ 68 ∷ 84 ∷ 72 ∷ 32 ∷ []

-- "\nHEIGHT " (R80)
abbrev pub height_text : List ℕ
height_text = 10 ∷ 72 ∷ 69 ∷ 73 ∷ 71 ∷ 72 ∷ 84 ∷ 32 ∷ []

-- "\nDEPTH 4\nMAXVAL 255\nTUPLTYPE RGB_ALPHA\nENDHDR\n" (R80)
abbrev pub tail_text : List ℕ
tail_text =
    10 ∷ 68 ∷ 69 ∷ 80 ∷ 84 ∷ 72 ∷ 32 ∷ 52
    ∷ 10 ∷ 77 ∷ 65 ∷ 88 ∷ 86 ∷ 65 ∷ 76 ∷ 32 ∷ 50 ∷ 53 ∷ 53
    ∷ 10 ∷ 84 ∷ 85 ∷ 80 ∷ 76 ∷ 84 ∷ 89 ∷ 80 ∷ 69 ∷ 32 ∷ 82 ∷ 71 ∷ 66 ∷ 95 ∷ 65 ∷ 76 ∷ 80 ∷ 72 ∷ 65
    ∷ 10 ∷ 69 ∷ 78 ∷ 68 ∷ 72 ∷ 68 ∷ 82
    ∷ 10 ∷ []

-- how many digits stand from a place on, counted up to the most (R80)
abbrev pub digits_at : List ℕ → ℕ → ℕ
digits_at input at = digits_upto most_digits input at

-- a number stands at a place: at least one digit, the first not '0'. After the digits counted a newline is asked for, so a
-- sixth digit is declined (R80)
unfoldable pub is_number : List ℕ → ℕ → Bool
is_number input at = leb 1 (digits_at input at) && not (eqb (get_or input at 0) 48)

-- where the width, the text after it, the height, the text after it and the pixels stand: the three texts have 9, 8 and 46 bytes (R80)
abbrev pub width_at : ℕ
width_at = length width_text

unfoldable pub middle_at : List ℕ → ℕ
middle_at input = width_at + digits_at input width_at

unfoldable pub height_at : List ℕ → ℕ
height_at input = middle_at input + length height_text

unfoldable pub tail_at : List ℕ → ℕ
tail_at input = height_at input + digits_at input (height_at input)

unfoldable pub body_at : List ℕ → ℕ
body_at input = tail_at input + length tail_text

-- the width and the height that the header gives (R80)
unfoldable pub width_of : List ℕ → ℕ
width_of input = number_upto most_digits input width_at

unfoldable pub height_of : List ℕ → ℕ
height_of input = number_upto most_digits input (height_at input)

-- whether the input starts with this header (R80)
unfoldable pub earlier_ok : List ℕ → Bool
earlier_ok input =
    starts_at input 0 width_text
    && is_number input width_at
    && starts_at input (middle_at input) height_text
    && is_number input (height_at input)
    && starts_at input (tail_at input) tail_text

-- what it says, in the form of `header_of` (R80)
unfoldable pub earlier_of : List ℕ → Option Header
earlier_of input =
    cond (earlier_ok input)
    (Some (record { height = height_of input; width = width_of input; body = body_at input }))
    None
