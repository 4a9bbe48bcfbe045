-- The header of a PAM file, by its lines (R38).
-- Assumes nothing.
use Rattle.std.specs.Prelude.{ℕ, suc, ◌+◌, Bool, true, cond, not, ◌&&◌, ◌||◌, List, [], ◌∷◌, eqb, leb, length, get_or, take, drop, Option, Some, None}
use Rattle.text.specs.Decimal.{all_digits, value_of}
use Rattle.pam_header.specs.declared.Header.{Header}

-- ---- lines

-- a byte put in front of the first of some lines; where there is none, no newline ends what the byte begins (R38)
unfoldable pub in_front : ℕ → List (List ℕ) → List (List ℕ)
in_front b [] = []
in_front b (line ∷ lines) = (b ∷ line) ∷ lines

-- the lines of a text, each without the newline that ends it; bytes after the last newline are of no line (R38)
unfoldable pub lines_of : List ℕ → List (List ℕ)
lines_of [] = []
lines_of (b ∷ text) = cond (eqb b 10) ([] ∷ lines_of text) (in_front b (lines_of text))

-- on how many lines a test holds (R38)
unfoldable pub count_of : (List ℕ → Bool) → List (List ℕ) → ℕ
count_of test [] = 0
count_of test (line ∷ lines) = cond (test line) 1 0 + count_of test lines

-- ---- what a line is

-- whether a text stands at a place. Past the end every byte is read as 0, which no text holds (R38)
unfoldable pub starts_at : List ℕ → ℕ → List ℕ → Bool
starts_at input at [] = true
starts_at input at (b ∷ text) = eqb (get_or input at 0) b && starts_at input (suc at) text

-- a line is a text and nothing more (R38)
unfoldable pub is_text : List ℕ → List ℕ → Bool
is_text text line = starts_at line 0 text && eqb (length line) (length text)

-- the most digits of a number (R38)
abbrev pub most_digits : ℕ
most_digits = 5

-- a number: 1 to 5 digits, the first not '0' (R38)
unfoldable pub is_numeral : List ℕ → Bool
is_numeral l = all_digits l && leb (length l) most_digits && leb 1 (length l) && not (eqb (get_or l 0 0) 48)

-- a line gives a side: a name with the space after it, then a number and nothing more (R38)
unfoldable pub is_side : List ℕ → List ℕ → Bool
is_side name line = starts_at line 0 name && is_numeral (drop (length name) line)

-- "P7", "WIDTH ", "HEIGHT ", "DEPTH 4", "MAXVAL 255", "TUPLTYPE RGB_ALPHA" and "ENDHDR" (R38)
abbrev pub first_text : List ℕ
first_text = 80 ∷ 55 ∷ []

abbrev pub width_name : List ℕ
width_name = 87 ∷ 73 ∷ 68 ∷ 84 ∷ 72 ∷ 32 ∷ []

abbrev pub height_name : List ℕ
height_name = 72 ∷ 69 ∷ 73 ∷ 71 ∷ 72 ∷ 84 ∷ 32 ∷ []

abbrev pub depth_text : List ℕ
depth_text = 68 ∷ 69 ∷ 80 ∷ 84 ∷ 72 ∷ 32 ∷ 52 ∷ []

abbrev pub maxval_text : List ℕ
maxval_text = 77 ∷ 65 ∷ 88 ∷ 86 ∷ 65 ∷ 76 ∷ 32 ∷ 50 ∷ 53 ∷ 53 ∷ []

abbrev pub tupltype_text : List ℕ
tupltype_text =
    84 ∷ 85 ∷ 80 ∷ 76 ∷ 84 ∷ 89 ∷ 80 ∷ 69 ∷ 32 ∷ 82 ∷ 71 ∷ 66 ∷ 95 ∷ 65 ∷ 76 ∷ 80 ∷ 72 ∷ 65 ∷ []

abbrev pub end_text : List ℕ
end_text = 69 ∷ 78 ∷ 68 ∷ 72 ∷ 68 ∷ 82 ∷ []

-- a line is skipped: it is empty or begins with '#' (R38)
unfoldable pub is_skipped : List ℕ → Bool
is_skipped line = eqb (length line) 0 || eqb (get_or line 0 0) 35

-- a line is neither skipped nor one of the five fields (R38)
unfoldable pub is_other : List ℕ → Bool
is_other line =
    not
    (is_skipped line
    || is_side width_name line
    || is_side height_name line
    || is_text depth_text line
    || is_text maxval_text line
    || is_text tupltype_text line)

-- ---- the header

-- the lines before the first that is ENDHDR (R38)
unfoldable pub field_lines : List (List ℕ) → List (List ℕ)
field_lines [] = []
field_lines (line ∷ lines) = cond (is_text end_text line) [] (line ∷ field_lines lines)

-- each field stands on one of the lines and on no second, and the other lines are skipped (R38)
unfoldable pub fields_ok : List (List ℕ) → Bool
fields_ok lines =
    eqb (count_of (is_side width_name) lines) 1
    && eqb (count_of (is_side height_name) lines) 1
    && eqb (count_of (is_text depth_text) lines) 1
    && eqb (count_of (is_text maxval_text) lines) 1
    && eqb (count_of (is_text tupltype_text) lines) 1
    && eqb (count_of is_other lines) 0

-- the side that a line gives; v where it gives none (R38)
unfoldable pub side_from : List ℕ → ℕ → List ℕ → ℕ
side_from name v line = cond (is_side name line) (value_of (drop (length name) line)) v

-- the side that the last of the lines gives which give one; v where there is none (R38)
unfoldable pub side_in : List ℕ → ℕ → List (List ℕ) → ℕ
side_in name v [] = v
side_in name v (line ∷ lines) = side_in name (side_from name v line) lines

-- how many bytes lines take, each with its newline (R38)
unfoldable pub bytes_of : List (List ℕ) → ℕ
bytes_of [] = 0
bytes_of (line ∷ lines) = length line + 1 + bytes_of lines

-- the lines of a header: the first is P7, a later one is ENDHDR, and those between are as they should be (R38)
unfoldable pub are_lines_ok : List (List ℕ) → Bool
are_lines_ok lines =
    is_text first_text (get_or lines 0 [])
    && leb 1 (count_of (is_text end_text) (drop 1 lines))
    && fields_ok (field_lines (drop 1 lines))

-- the most bytes of a header, up to and with the newline of ENDHDR (R38)
abbrev pub most_header : ℕ
most_header = 4096

-- what a header says, where it is accepted: the sides, and where the pixels stand (R38)
unfoldable pub header_by : List (List ℕ) → Option Header
header_by lines =
    let fields = field_lines (drop 1 lines) in
    cond (are_lines_ok lines)
    (Some
    (record {
      height = side_in height_name 0 fields;
      width = side_in width_name 0 fields;
      body = bytes_of (first_text ∷ []) + bytes_of fields + bytes_of (end_text ∷ []);
    }))
    None

-- the header of an input stands in its first 4096 bytes (R38)
unfoldable pub header_of : List ℕ → Option Header
header_of input = header_by (lines_of (take most_header input))
