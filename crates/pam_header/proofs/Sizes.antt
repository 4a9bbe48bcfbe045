-- What a header says is small: the sides are at most 99999, and at least 1 where it is accepted; and it stands in the first bytes.
-- Assumes nothing.
use mathlib.Core.Path.{◌≡◌, refl, ap}
use mathlib.Core.Bool.{true, false, ◌&&◌}
use mathlib.Core.List.{List, [], ◌∷◌}
use mathlib.Core.Logic.{⊎_elim}
use Prim.Native.Nat.{ℕ, suc, ◌+◌, ◌≤◌}
use native.Mathlib.Omega.{arith}
use lib.Dec.{eqb, leb}
use lib.ListN.{length, get_or, take, drop, length-take}
use lib.Seq.{take-take}
use borrow.Author.Tests.{leb-true, eqb-true}
use Rattle.std.proofs.Common.{Option, Some, None}
use Rattle.plane.proofs.Search.{not-both}
use Rattle.std.proofs.lemmas.Bool.{and_parts, cases_Bool}
use Rattle.text.specs.Decimal.{value_of}
use Rattle.pam_header.specs.declared.Header.{Header}
use Rattle.pam_header.specs.Header.{in_front, lines_of, count_of, starts_at, is_text, is_side, is_other}
use Rattle.pam_header.specs.Header.{first_text, width_name, height_name, depth_text, maxval_text, tupltype_text, end_text}
use Rattle.pam_header.specs.Header.{field_lines, fields_ok, side_from, side_in, bytes_of, are_lines_ok, most_header, header_by, header_of}
use Rattle.pam_header.proofs.Comparing.{text-long}
use Rattle.pam_header.proofs.Sides.{side-number}
use Rattle.pam_header.proofs.Numbers.{numeral, value-some, value-most}

-- ---- the sides

module _ (name : List ℕ) where
  -- a side that some line gives is at least 1, and none is above 99999
  side-some : (lines : List (List ℕ)) (v : ℕ) → 1 ≤ v + count_of (is_side name) lines → 1 ≤ side_in name v lines
  unfolding side_in side_from count_of
  side-some [] v l = omega arith
  side-some (line ∷ lines) v l =
      ⊎_elim {C = 1 ≤ side_in name v (line ∷ lines)}
      (λ (t : is_side name line ≡ true).
      let some = value-some (drop (length name) line) (numeral _ (side-number name line t)) in
      rw t (side-some lines (value_of (drop (length name) line)) (omega arith)))
      (λ (t : is_side name line ≡ false).
      let m : 1 ≤ v + (0 + count_of (is_side name) lines) = rw t at l in
      rw t (side-some lines v (omega arith)))
      (cases_Bool (is_side name line))

  side-most : (lines : List (List ℕ)) (v : ℕ) → v ≤ 99999 → side_in name v lines ≤ 99999
  unfolding side_in side_from
  side-most [] v l = l
  side-most (line ∷ lines) v l =
      ⊎_elim {C = side_in name v (line ∷ lines) ≤ 99999}
      (λ (t : is_side name line ≡ true).
      rw t (side-most lines _ (value-most (drop (length name) line) (numeral _ (side-number name line t)))))
      (λ (t : is_side name line ≡ false). rw t (side-most lines v l))
      (cases_Bool (is_side name line))

-- ---- how long the header is

-- lines with their newlines are part of the text
bytes-front : (b : ℕ) (lines : List (List ℕ)) → bytes_of (in_front b lines) ≤ suc (bytes_of lines)
unfolding bytes_of in_front
bytes-front b [] = omega arith
bytes-front b (line ∷ lines) = omega arith

bytes_most : (text : List ℕ) → bytes_of (lines_of text) ≤ length text
unfolding bytes_of lines_of
bytes_most [] = omega arith
bytes_most (b ∷ text) =
    ⊎_elim {C = bytes_of (lines_of (b ∷ text)) ≤ suc (length text)}
    (λ (t : eqb b 10 ≡ true). rw t (omega (arith, bytes_most text)))
    (λ (t : eqb b 10 ≡ false). rw t (omega (arith, bytes_most text, bytes-front b (lines_of text))))
    (cases_Bool (eqb b 10))

-- ENDHDR is one of the lines that come after the fields
field-bytes : (lines : List (List ℕ)) → 1 ≤ count_of (is_text end_text) lines → bytes_of (field_lines lines) + 7 ≤ bytes_of lines
unfolding bytes_of field_lines count_of
field-bytes [] l = absurd (omega arith)
field-bytes (line ∷ lines) l =
    ⊎_elim {C = bytes_of (field_lines (line ∷ lines)) + 7 ≤ bytes_of (line ∷ lines)}
    (λ (t : is_text end_text line ≡ true). rw t (omega (arith, text-long end_text line t)))
    (λ (t : is_text end_text line ≡ false).
    let m : 1 ≤ 0 + count_of (is_text end_text) lines = rw t at l in
    rw t (omega (arith, field-bytes lines (omega arith))))
    (cases_Bool (is_text end_text line))

-- ---- a header

-- what an accepted header is made of
pub record LinesOk (lines : List (List ℕ)) : Type 0 where
  pub first_is : is_text first_text (get_or lines 0 []) ≡ true
  pub end_stands : 1 ≤ count_of (is_text end_text) (drop 1 lines)
  pub fields_are_ok : fields_ok (field_lines (drop 1 lines)) ≡ true

pub lines_ok : (lines : List (List ℕ)) → are_lines_ok lines ≡ true → LinesOk lines
unfolding are_lines_ok
lines_ok lines e =
    let f = is_text first_text (get_or lines 0 []) in
    let g = leb 1 (count_of (is_text end_text) (drop 1 lines)) in
    let a = and_parts (f && g) (fields_ok (field_lines (drop 1 lines))) e in
    let b = and_parts f g a.0 in
    record { first_is = b.0; end_stands = leb-true _ _ b.1; fields_are_ok = a.1 }

pub record FieldsOk (lines : List (List ℕ)) : Type 0 where
  pub one_width : count_of (is_side width_name) lines ≡ 1
  pub one_height : count_of (is_side height_name) lines ≡ 1
  pub one_depth : count_of (is_text depth_text) lines ≡ 1
  pub one_maxval : count_of (is_text maxval_text) lines ≡ 1
  pub one_tupltype : count_of (is_text tupltype_text) lines ≡ 1
  pub no_other : count_of is_other lines ≡ 0

pub fields-are : (lines : List (List ℕ)) → fields_ok lines ≡ true → FieldsOk lines
unfolding fields_ok
fields-are lines e =
    let w = eqb (count_of (is_side width_name) lines) 1 in
    let h = eqb (count_of (is_side height_name) lines) 1 in
    let d = eqb (count_of (is_text depth_text) lines) 1 in
    let m = eqb (count_of (is_text maxval_text) lines) 1 in
    let t = eqb (count_of (is_text tupltype_text) lines) 1 in
    let o5 = and_parts (w && h && d && m && t) (eqb (count_of is_other lines) 0) e in
    let o4 = and_parts (w && h && d && m) t o5.0 in
    let o3 = and_parts (w && h && d) m o4.0 in
    let o2 = and_parts (w && h) d o3.0 in
    let o1 = and_parts w h o2.0 in
    record {
      one_width = eqb-true _ _ o1.0;
      one_height = eqb-true _ _ o1.1;
      one_depth = eqb-true _ _ o2.1;
      one_maxval = eqb-true _ _ o3.1;
      one_tupltype = eqb-true _ _ o4.1;
      no_other = eqb-true _ _ o5.1;
    }

-- what a header says is small, and the sides are at least 1
pub record Small (header : Header) : Type 0 where
  pub height_most : header.height ≤ 99999
  pub width_most : header.width ≤ 99999
  pub body_most : header.body ≤ most_header
  pub height_some : 1 ≤ header.height
  pub width_some : 1 ≤ header.width

small_by : (lines : List (List ℕ)) → bytes_of lines ≤ most_header → (header : Header) → header_by lines ≡ Some header → Small header
unfolding header_by bytes_of is_text starts_at
small_by lines l header e =
    ⊎_elim {C = Small header}
    (λ (t : are_lines_ok lines ≡ true).
    let o = lines_ok lines t in
    let fields = field_lines (drop 1 lines) in
    let f = fields-are fields o.fields_are_ok in
    let small : Small (header_with fields) =
    record {
      height_most = side-most height_name fields 0 (omega arith);
      width_most = side-most width_name fields 0 (omega arith);
      body_most = omega (arith, l, after_first lines o.first_is, field-bytes (drop 1 lines) o.end_stands);
      height_some = side-some height_name fields 0 (omega (arith, f.one_height));
      width_some = side-some width_name fields 0 (omega (arith, f.one_width));
    } in
    let given : ◌≡◌ {A = Option Header} (Some (header_with fields)) (Some header) = rw t at e in
    let same : header_with fields ≡ header = cc in
    rw same at small)
    (λ (t : are_lines_ok lines ≡ false). let z : ◌≡◌ {A = Option Header} None (Some header) = rw t at e in cc)
    (cases_Bool (are_lines_ok lines))
  where
    header_with : List (List ℕ) → Header
    header_with fields =
        record {
          height = side_in height_name 0 fields;
          width = side_in width_name 0 fields;
          body = bytes_of (first_text ∷ []) + bytes_of fields + bytes_of (end_text ∷ []);
        }

    after_first : (all : List (List ℕ)) → is_text first_text (get_or all 0 []) ≡ true → 3 + bytes_of (drop 1 all) ≤ bytes_of all
    after_first [] e = not-both false e refl
    after_first (first ∷ rest) e = omega (arith, text-long first_text first e)

pub header-small : (input : List ℕ) (header : Header) → header_of input ≡ Some header → Small header
unfolding header_of
header-small input header e =
    let front = take most_header input in
    let long : length front ≤ most_header = rw length-take (omega arith) in
    small_by (lines_of front) (omega (arith, bytes_most front)) header e

-- the header depends on the first most_header bytes alone, and with it the refusal 8
pub header-first : (n : ℕ) (input : List ℕ) → most_header ≤ n → header_of (take n input) ≡ header_of input
unfolding header_of
header-first n input l = ap (λ (front : List ℕ). header_by (lines_of front)) (take-take most_header n input l)
