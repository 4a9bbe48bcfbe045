-- The header as a text, for the law that just these texts are accepted. No contract cites it.
-- Assumes nothing.
use Rattle.std.specs.Prelude.{ℕ, ◌≤◌, ◌≡◌, Bool, true, not, ◌&&◌, List, [], ◌∷◌, ◌++◌, eqb, length, Some}
use Rattle.text.specs.Decimal.{value_of}
use Rattle.pam_header.specs.declared.Header.{Header}
use Rattle.pam_header.specs.Header.{is_numeral, first_text, width_name, height_name, end_text, fields_ok, most_header, header_of}

-- no byte of a line, or of several, is a newline (R38)
unfoldable pub is_plain : List ℕ → Bool
is_plain [] = true
is_plain (b ∷ line) = not (eqb b 10) && is_plain line

unfoldable pub all_plain : List (List ℕ) → Bool
all_plain [] = true
all_plain (line ∷ lines) = is_plain line && all_plain lines

-- lines as a text, a newline after each (R38)
unfoldable pub text_of : List (List ℕ) → List ℕ
text_of [] = []
text_of (line ∷ lines) = line ++ (10 ∷ text_of lines)

-- the header with these lines between P7 and ENDHDR (R38)
unfoldable pub header_text : List (List ℕ) → List ℕ
header_text lines = text_of (first_text ∷ (lines ++ (end_text ∷ [])))

-- a number stands after a name on one of the lines (R38)
pub record Stands (name digits : List ℕ) (lines : List (List ℕ)) : Type 0 where
  pub before : List (List ℕ)
  pub after : List (List ℕ)
  pub lines_are : lines ≡ before ++ ((name ++ digits) ∷ after)
  pub number : is_numeral digits ≡ true

-- lines that make a header with these digits of width and height (R38)
pub record Lines (w h : List ℕ) (lines : List (List ℕ)) : Type 0 where
  pub plain : all_plain lines ≡ true
  pub fields : fields_ok lines ≡ true
  pub short : length (header_text lines) ≤ most_header
  pub width_stands : Stands width_name w lines
  pub height_stands : Stands height_name h lines

-- what the header with these lines says: its digits as sides, and that the pixels stand right after it (R38)
unfoldable pub said_by : List ℕ → List ℕ → List (List ℕ) → Header
said_by w h lines = record { height = value_of h; width = value_of w; body = length (header_text lines) }

-- an input starts with such a header, and is read so (R38)
pub record HasHeader (input : List ℕ) : Type 0 where
  pub width : List ℕ
  pub height : List ℕ
  pub lines : List (List ℕ)
  pub rest : List ℕ
  pub lines_ok : Lines width height lines
  pub input_is : input ≡ header_text lines ++ rest
  pub header_is : header_of input ≡ Some (said_by width height lines)
