-- The header read line by line.
-- Assumes nothing.
use Rattle.std.specs.Prelude.{ℕ, Bool, true, false, cond, ◌&&◌, List, eqb, length, drop, Option, Some, None, is_some}
use Rattle.text.specs.Decimal.{value_of}
use Rattle.pam_header.specs.declared.Header.{Header}
use Rattle.pam_header.specs.declared.Fields.{Fields}
use Rattle.pam_header.specs.declared.Line.{Line}
use Rattle.pam_header.specs.declared.Line.TheVariants.{Skipped, Width, Height, Depth, Maxval, Tupltype}
use Rattle.pam_header.specs.Header.{is_text, is_side, is_skipped}
use Rattle.pam_header.specs.Header.{width_name, height_name, depth_text, maxval_text, tupltype_text}

-- what ends a line
abbrev pub is_newline : ℕ → Bool
is_newline b = eqb b 10

-- the side that a line gives after a name
abbrev pub side_on : List ℕ → List ℕ → Option ℕ
side_on name line = cond (is_side name line) (Some (value_of (drop (length name) line))) None

-- what a line is; None where it has no place between P7 and ENDHDR
abbrev pub line_of : List ℕ → Option Line
line_of line =
    cond (is_skipped line) (Some Skipped)
    (cond (is_side width_name line) (Some (Width (value_of (drop (length width_name) line))))
    (cond (is_side height_name line) (Some (Height (value_of (drop (length height_name) line))))
    (cond (is_text depth_text line) (Some Depth)
    (cond (is_text maxval_text line) (Some Maxval)
    (cond (is_text tupltype_text line) (Some Tupltype) None)))))

-- the fields with one more, which was not seen already
abbrev pub with_field : Fields → Option Line → Option Fields
with_field s None = None
with_field s (Some Skipped) = Some s
with_field s (Some (Width n)) = cond (is_some s.width) None (Some (record s { width = Some n }))
with_field s (Some (Height n)) = cond (is_some s.height) None (Some (record s { height = Some n }))
with_field s (Some Depth) = cond s.depth None (Some (record s { depth = true }))
with_field s (Some Maxval) = cond s.maxval None (Some (record s { maxval = true }))
with_field s (Some Tupltype) = cond s.tupltype None (Some (record s { tupltype = true }))

-- after one more line
abbrev pub with_line : Fields → List ℕ → Option Fields
with_line s line = with_field s (line_of line)

-- the header with these sides, where the other fields were seen
abbrev pub header_with : Option ℕ → Option ℕ → Bool → ℕ → Option Header
header_with (Some h) (Some w) true at = Some (record { height = h; width = w; body = at })
header_with (Some h) (Some w) false at = None
header_with (Some h) None t at = None
header_with None w t at = None

abbrev pub header_from : Fields → ℕ → Option Header
header_from s at = header_with s.height s.width (s.depth && s.maxval && s.tupltype) at
