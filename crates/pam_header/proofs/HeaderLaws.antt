-- Accepted are the inputs that start with P7, lines of R38 in any order and ENDHDR, in at most 4096 bytes, and no others; the sides are
-- the numbers on the lines WIDTH and HEIGHT.
-- Assumes nothing.
use mathlib.Core.Path.{◌≡◌, refl, sym, ap, ◌∙◌}
use mathlib.Core.Bool.{Bool, true, false, cond, not}
use mathlib.Core.List.{List, [], ◌∷◌, ◌++◌, append_assoc}
use mathlib.Core.Logic.{⊎_elim}
use Prim.Native.Nat.{ℕ, ◌+◌, ◌-◌, ◌≤◌}
use native.Mathlib.Omega.{arith}
use lib.Dec.{eqb}
use lib.ListN.{length, take, drop, length-append, length-take, take-append-drop}
use lib.Seq.{drop_at, take-append-add}
use borrow.Author.Tests.{le-leb, not-true}
use Rattle.std.proofs.Common.{Some}
use Rattle.std.specs.Option.{IsSome}
use Rattle.plane.proofs.Search.{not-both}
use Rattle.std.proofs.lemmas.Bool.{and_from, and_parts, cases_Bool}
use Rattle.text.specs.Decimal.{value_of}
use Rattle.pam_header.specs.Header.{in_front, lines_of, count_of, starts_at, is_text, is_numeral, is_side, is_skipped, is_other}
use Rattle.pam_header.specs.Header.{first_text, width_name, height_name, end_text}
use Rattle.pam_header.specs.Header.{field_lines, fields_ok, side_from, side_in, bytes_of, are_lines_ok, most_header, header_by, header_of}
use Rattle.pam_header.specs.HeaderText.{is_plain, all_plain, text_of, header_text, Stands, Lines, said_by, HasHeader}
use Rattle.pam_header.proofs.Comparing.{text-is}
use Rattle.pam_header.proofs.Lines.{first-line, lines-text}
use Rattle.pam_header.proofs.Sides.{side-given, side-line}
use Rattle.pam_header.proofs.Sizes.{fields-are, lines_ok}

-- ---- lines and their text

text-append : (a b : List (List ℕ)) → text_of (a ++ b) ≡ text_of a ++ text_of b
unfolding text_of
text-append [] b = refl
text-append (line ∷ a) b =
    ap (λ (t : List ℕ). line ++ (10 ∷ t)) (text-append a b) ∙ sym (append_assoc line (10 ∷ text_of a) (text_of b))

-- lines without newlines are the lines of their text
line_first : (line rest : List ℕ) → is_plain line ≡ true → lines_of (line ++ (10 ∷ rest)) ≡ line ∷ lines_of rest
unfolding lines_of in_front is_plain
line_first [] rest e = refl
line_first (b ∷ line) rest e =
    let a = and_parts (not (eqb b 10)) (is_plain line) e in
    rw (not-true (eqb b 10) a.0, line_first line rest a.1)

text-lines : (lines : List (List ℕ)) (rest : List ℕ) → all_plain lines ≡ true → lines_of (text_of lines ++ rest) ≡ lines ++ lines_of rest
unfolding text_of all_plain
text-lines [] rest e = refl
text-lines (line ∷ lines) rest e =
    let a = and_parts (is_plain line) (all_plain lines) e in
    ap lines_of (append_assoc line (10 ∷ text_of lines) rest)
    ∙ line_first line (text_of lines ++ rest) a.0
    ∙ ap (λ (ls : List (List ℕ)). line ∷ ls) (text-lines lines rest a.1)

-- the lines of a text are plain, and so are parts of them
lines-plain : (text : List ℕ) → all_plain (lines_of text) ≡ true
unfolding all_plain lines_of in_front is_plain
lines-plain [] = refl
lines-plain (b ∷ text) =
    ⊎_elim {C = all_plain (lines_of (b ∷ text)) ≡ true}
    (λ (t : eqb b 10 ≡ true). rw t (lines-plain text))
    (λ (t : eqb b 10 ≡ false). rw t (in-front b (lines_of text) t (lines-plain text)))
    (cases_Bool (eqb b 10))
  where
    in-front : (b : ℕ) (lines : List (List ℕ)) → eqb b 10 ≡ false → all_plain lines ≡ true → all_plain (in_front b lines) ≡ true
    in-front b [] t e = refl
    in-front b (line ∷ lines) t e = rw t e

plain-front : (a b : List (List ℕ)) → all_plain (a ++ b) ≡ true → all_plain a ≡ true
unfolding all_plain
plain-front [] b e = refl
plain-front (line ∷ a) b e =
    let p = and_parts (is_plain line) (all_plain (a ++ b)) e in
    and_from (is_plain line) (all_plain a) p.0 (plain-front a b p.1)

plain-with : (a b : List (List ℕ)) → all_plain a ≡ true → all_plain b ≡ true → all_plain (a ++ b) ≡ true
unfolding all_plain
plain-with [] b e f = f
plain-with (line ∷ a) b e f =
    let p = and_parts (is_plain line) (all_plain a) e in
    and_from (is_plain line) (all_plain (a ++ b)) p.0 (plain-with a b p.1 f)

bytes-text : (lines : List (List ℕ)) → bytes_of lines ≡ length (text_of lines)
unfolding bytes_of text_of
bytes-text [] = refl
bytes-text (line ∷ lines) = rw (length-append line (10 ∷ text_of lines)) (omega (arith, bytes-text lines))

-- ---- the lines up to ENDHDR

-- ENDHDR itself is no field and is not skipped
end-other : is_other end_text ≡ true
unfolding is_other is_skipped is_side is_text starts_at
end-other = refl

fields-all : (lines more : List (List ℕ)) → count_of is_other lines ≡ 0 → field_lines (lines ++ (end_text ∷ more)) ≡ lines
unfolding field_lines count_of is_text starts_at
fields-all [] more e = refl
fields-all (line ∷ lines) more e =
    ⊎_elim {C = field_lines (line ∷ (lines ++ (end_text ∷ more))) ≡ line ∷ lines}
    (λ (t : is_text end_text line ≡ true).
    let o : is_other line ≡ true = ap is_other (text-is end_text line t) ∙ end-other in
    let z : 1 + count_of is_other lines ≡ 0 = rw o at e in
    absurd (omega arith))
    (λ (t : is_text end_text line ≡ false).
    let z : cond (is_other line) 1 0 + count_of is_other lines ≡ 0 = e in
    rw t (ap (λ (ls : List (List ℕ)). line ∷ ls) (fields-all lines more (omega arith))))
    (cases_Bool (is_text end_text line))

-- some line passes a test
count-some : (test : List ℕ → Bool) (before : List (List ℕ)) (line : List ℕ) (after : List (List ℕ)) → test line ≡ true
    → 1 ≤ count_of test (before ++ (line ∷ after))
unfolding count_of
count-some test [] line after e = rw e (omega arith)
count-some test (x ∷ before) line after e = omega (arith, count-some test before line after e)

end-found : (lines : List (List ℕ)) → 1 ≤ count_of (is_text end_text) lines
    → (more : List (List ℕ)) × (lines ≡ field_lines lines ++ (end_text ∷ more))
unfolding field_lines count_of
end-found [] l = absurd (omega arith)
end-found (line ∷ lines) l =
    ⊎_elim {C = (more : List (List ℕ)) × (line ∷ lines ≡ field_lines (line ∷ lines) ++ (end_text ∷ more))}
    (λ (t : is_text end_text line ≡ true). rw t (lines, ap (λ (x : List ℕ). x ∷ lines) (text-is end_text line t)))
    (λ (t : is_text end_text line ≡ false).
    let m : 1 ≤ 0 + count_of (is_text end_text) lines = rw t at l in
    let r = end-found lines (omega arith) in
    rw t (r.0, ap (λ (ls : List (List ℕ)). line ∷ ls) r.1))
    (cases_Bool (is_text end_text line))

-- ---- the sides

module _ (name : List ℕ) where
  side-none : (lines : List (List ℕ)) (v : ℕ) → count_of (is_side name) lines ≡ 0 → side_in name v lines ≡ v
  unfolding side_in side_from count_of
  side-none [] v e = refl
  side-none (line ∷ lines) v e =
      ⊎_elim {C = side_in name v (line ∷ lines) ≡ v}
      (λ (t : is_side name line ≡ true). absurd (let z : 1 + count_of (is_side name) lines ≡ 0 = rw t at e in omega arith))
      (λ (t : is_side name line ≡ false).
      let z : 0 + count_of (is_side name) lines ≡ 0 = rw t at e in
      rw t (side-none lines v (omega arith)))
      (cases_Bool (is_side name line))

  -- the only line that gives it decides
  side-is : (before : List (List ℕ)) (digits : List ℕ) (after : List (List ℕ)) (v : ℕ) → is_numeral digits ≡ true
      → count_of (is_side name) (before ++ ((name ++ digits) ∷ after)) ≡ 1
      → side_in name v (before ++ ((name ++ digits) ∷ after)) ≡ value_of digits
  unfolding side_in side_from count_of
  side-is [] digits after v n e =
      let g = side-given name digits n in
      let z : 1 + count_of (is_side name) after ≡ 1 = rw g at e in
      let s : side_from name v (name ++ digits) ≡ value_of digits = rw g (ap value_of (drop_at name digits (length name) refl)) in
      ap (λ (k : ℕ). side_in name k after) s ∙ side-none after (value_of digits) (omega arith)
  side-is (line ∷ before) digits after v n e =
      let all = before ++ ((name ++ digits) ∷ after) in
      ⊎_elim {C = side_in name v (line ∷ all) ≡ value_of digits}
      (λ (t : is_side name line ≡ true).
      let z : 1 + count_of (is_side name) all ≡ 1 = rw t at e in
      absurd (omega (arith, count-some (is_side name) before (name ++ digits) after (side-given name digits n))))
      (λ (t : is_side name line ≡ false).
      let z : 0 + count_of (is_side name) all ≡ 1 = rw t at e in
      let s : side_from name v line ≡ v = rw t in
      ap (λ (k : ℕ). side_in name k all) s ∙ side-is before digits after v n (omega arith))
      (cases_Bool (is_side name line))

  side-found : (lines : List (List ℕ)) → 1 ≤ count_of (is_side name) lines → (digits : List ℕ) × Stands name digits lines
  unfolding count_of is_side
  side-found [] l = absurd (omega arith)
  side-found (line ∷ lines) l =
      ⊎_elim {C = (digits : List ℕ) × Stands name digits (line ∷ lines)}
      (λ (t : is_side name line ≡ true).
      let digits = drop (length name) line in (
        digits,
        record {
          before = [];
          after = lines;
          lines_are = ap (λ (x : List ℕ). x ∷ lines) (sym (side-line name line t));
          number = (and_parts (starts_at line 0 name) (is_numeral digits) t).1;
        },
      ))
      (λ (t : is_side name line ≡ false).
      let m : 1 ≤ 0 + count_of (is_side name) lines = rw t at l in
      let r = side-found lines (omega arith) in
      let s = r.1 in (
        r.0,
        record {
          before = line ∷ s.before;
          after = s.after;
          lines_are = ap (λ (ls : List (List ℕ)). line ∷ ls) s.lines_are;
          number = s.number;
        },
      ))
      (cases_Bool (is_side name line))

  side-stands : (digits : List ℕ) (lines : List (List ℕ)) → Stands name digits lines → count_of (is_side name) lines ≡ 1
      → side_in name 0 lines ≡ value_of digits
  side-stands digits lines s e =
      ap (side_in name 0) s.lines_are
      ∙ side-is s.before digits s.after 0 s.number (sym (ap (count_of (is_side name)) s.lines_are) ∙ e)

-- ---- an input that starts with a header

bytes-append : (a b : List (List ℕ)) → bytes_of (a ++ b) ≡ bytes_of a + bytes_of b
unfolding bytes_of
bytes-append [] b = omega arith
bytes-append (line ∷ a) b = omega (arith, bytes-append a b)

header-long : (lines : List (List ℕ)) → bytes_of (first_text ∷ []) + bytes_of lines + bytes_of (end_text ∷ []) ≡ length (header_text lines)
unfolding header_text bytes_of
header-long lines =
    omega (arith, bytes-text (first_text ∷ (lines ++ (end_text ∷ []))), bytes-append lines (end_text ∷ []))

-- whatever lines follow ENDHDR
header_is : (lines more : List (List ℕ)) → fields_ok lines ≡ true
    → header_by (first_text ∷ (lines ++ (end_text ∷ more)))
    ≡ Some (record { height = side_in height_name 0 lines; width = side_in width_name 0 lines; body = length (header_text lines) })
unfolding header_by are_lines_ok is_text starts_at
header_is lines more o =
    rw (
      le-leb 1 (count_of (is_text end_text) (lines ++ (end_text ∷ more))) (count-some (is_text end_text) lines end_text more refl),
      fields-all lines more (fields-are lines o).no_other,
      o,
      header-long lines,
    )

pub header-accepted : (w h : List ℕ) (lines : List (List ℕ)) (rest : List ℕ) → Lines w h lines
    → header_of (header_text lines ++ rest) ≡ Some (said_by w h lines)
unfolding header_of header_text all_plain is_plain said_by
header-accepted w h lines rest m =
    let text = header_text lines in
    let k = most_header - length text in
    let all = first_text ∷ (lines ++ (end_text ∷ [])) in
    let more = lines_of (take k rest) in
    let n : most_header ≡ length text + k = omega (arith, m.short) in
    let front : take most_header (text ++ rest) ≡ text ++ take k rest =
    ap (λ (j : ℕ). take j (text ++ rest)) n ∙ take-append-add text rest k in
    let whole : lines_of (text ++ take k rest) ≡ first_text ∷ (lines ++ (end_text ∷ more)) =
    text-lines all (take k rest) (plain-with lines (end_text ∷ []) m.plain refl)
    ∙ ap (λ (ls : List (List ℕ)). first_text ∷ ls) (append_assoc lines (end_text ∷ []) more) in
    let one = fields-are lines m.fields in
    ap (λ (t : List ℕ). header_by (lines_of t)) front
    ∙ ap header_by whole
    ∙ header_is lines more m.fields
    ∙ rw (
      side-stands width_name w lines m.width_stands one.one_width,
      side-stands height_name h lines m.height_stands one.one_height,
    )

-- ---- an input that is accepted starts with a header

header-lines : (input : List ℕ) → IsSome (header_of input) → are_lines_ok (lines_of (take most_header input)) ≡ true
unfolding header_of header_by
header-lines input o =
    let lines = lines_of (take most_header input) in
    ⊎_elim {C = are_lines_ok lines ≡ true}
    (λ (t : are_lines_ok lines ≡ true). t)
    (λ (t : are_lines_ok lines ≡ false). let z : false ≡ true = rw t at o in not-both false z refl)
    (cases_Bool (are_lines_ok lines))

pub header-means : (input : List ℕ) → IsSome (header_of input) → HasHeader input
unfolding header_text all_plain
header-means input o =
    let front = take most_header input in
    let all = lines_of front in
    let ok = lines_ok all (header-lines input o) in
    let found = end-found (drop 1 all) ok.end_stands in
    let lines = field_lines (drop 1 all) in
    let more = found.0 in
    let are : all ≡ first_text ∷ ((lines ++ (end_text ∷ [])) ++ more) =
    first-line all ok.first_is
    ∙ ap (λ (ls : List (List ℕ)). first_text ∷ ls) (found.1 ∙ sym (append_assoc lines (end_text ∷ []) more)) in
    let last = lines-text front in
    let after = text_of more ++ last.0 in
    let front-is : front ≡ header_text lines ++ after =
    last.1
    ∙ ap (λ (ls : List (List ℕ)). text_of ls ++ last.0) are
    ∙ ap (λ (t : List ℕ). t ++ last.0) (text-append (first_text ∷ (lines ++ (end_text ∷ []))) more)
    ∙ append_assoc (header_text lines) (text_of more) last.0 in
    let one = fields-are lines ok.fields_are_ok in
    let w = side-found width_name lines (omega (arith, one.one_width)) in
    let h = side-found height_name lines (omega (arith, one.one_height)) in
    let plain : all_plain (first_text ∷ ((lines ++ (end_text ∷ [])) ++ more)) ≡ true = sym (ap all_plain are) ∙ lines-plain front in
    let long : length front ≤ most_header = rw length-take (omega arith) in
    let made : Lines w.0 h.0 lines =
    record {
      plain = plain-front lines (end_text ∷ []) (plain-front (lines ++ (end_text ∷ [])) more (and_parts (is_plain first_text) _ plain).1);
      fields = ok.fields_are_ok;
      short = omega (arith, long, ap length front-is ∙ length-append (header_text lines) after);
      width_stands = w.1;
      height_stands = h.1;
    } in
    let rest = after ++ drop most_header input in
    let input_is : input ≡ header_text lines ++ rest =
    sym (take-append-drop most_header input)
    ∙ ap (λ (t : List ℕ). t ++ drop most_header input) front-is
    ∙ append_assoc (header_text lines) after (drop most_header input) in
    record {
      width = w.0;
      height = h.0;
      lines = lines;
      rest = rest;
      lines_ok = made;
      input_is = input_is;
      header_is = ap header_of input_is ∙ header-accepted w.0 h.0 lines rest made;
    }
