-- The lines of a text one after the other, and the header that they give.
-- Assumes nothing.
use mathlib.Core.Path.{◌≡◌, refl, sym, ap, ◌∙◌}
use mathlib.Core.Bool.{Bool, true, false, cond, not, ◌&&◌, ◌||◌}
use mathlib.Core.List.{List, [], ◌∷◌, ◌++◌}
use mathlib.Core.Logic.{⊎_elim}
use Prim.Native.Nat.{ℕ, suc, ◌+◌, ◌-◌, ◌≤◌, ◌<◌}
use native.Mathlib.Nat.{zero-add}
use native.Mathlib.Numerals.{add-one}
use native.Mathlib.Omega.{arith}
use lib.Dec.{eqb, leb}
use lib.ListN.{length, get_or, take, drop, get_or-eq_default, length-drop, take-append-drop}
use lib.Seq.{length-take-le, take_all}
use borrow.Author.Tests.{le-leb, lt-ltb, le-ltb, eqb-true}
use Rattle.std.proofs.Common.{Option, Some, None}
use Rattle.std.specs.Option.{is_some, unwrap_or}
use Rattle.std.specs.List.{position, position_or_len}
use Rattle.std.specs.Cmp.Lexicographic.{pointwise}
use Rattle.std.proofs.lemmas.Slice.Eq.{bytes_eq-Decides}
use Rattle.plane.proofs.Search.{not-both, and_no}
use Rattle.std.proofs.lemmas.Bool.{and_parts, cases_Bool, cases_lt}
use Rattle.text.specs.Decimal.{value_of}
use Rattle.pam_header.specs.declared.Header.{Header}
use Rattle.pam_header.specs.declared.Fields.{Fields}
use Rattle.pam_header.specs.Header.{in_front, lines_of, count_of, starts_at, is_text, is_numeral, is_side, is_skipped, is_other}
use Rattle.pam_header.specs.Header.{first_text, width_name, height_name, depth_text, maxval_text, tupltype_text, end_text}
use Rattle.pam_header.specs.Header.{field_lines, fields_ok, side_from, side_in, bytes_of, are_lines_ok, header_by}
use Rattle.pam_header.specs.steps.Reading.{is_newline, with_line, header_from}
use Rattle.pam_header.specs.HeaderText.{text_of}
use Rattle.pam_header.proofs.Comparing.{text-long, text-is}

-- ---- the first line of a text

-- how many bytes stand before the first newline, or before the end
unfoldable line_long : List ℕ → ℕ
line_long [] = 0
line_long (b ∷ text) = cond (eqb b 10) 0 (suc (line_long text))

long-most : (text : List ℕ) → line_long text ≤ length text
unfolding line_long
long-most [] = omega arith
long-most (b ∷ text) = most (eqb b 10) (long-most text)
  where
    most : (t : Bool) {n m : ℕ} → n ≤ m → cond t 0 (suc n) ≤ suc m
    most true l = omega arith
    most false l = omega arith

-- bytes without a newline are no line
lines_none : (text : List ℕ) → line_long text ≡ length text → lines_of text ≡ []
unfolding line_long lines_of in_front
lines_none [] e = refl
lines_none (b ∷ text) e =
    ⊎_elim {C = lines_of (b ∷ text) ≡ []}
    (λ (t : eqb b 10 ≡ true). absurd (let z : 0 ≡ suc (length text) = rw t at e in omega arith))
    (λ (t : eqb b 10 ≡ false).
    let z : suc (line_long text) ≡ suc (length text) = rw t at e in
    rw (t, lines_none text (omega arith)))
    (cases_Bool (eqb b 10))

-- else the bytes before the newline are the first line, and those after it give the others
lines-some : (text : List ℕ) → line_long text < length text
    → lines_of text ≡ take (line_long text) text ∷ lines_of (drop (suc (line_long text)) text)
unfolding line_long lines_of in_front
lines-some [] l = absurd (omega arith)
lines-some (b ∷ text) l =
    ⊎_elim {C = lines_of (b ∷ text) ≡ take (line_long (b ∷ text)) (b ∷ text) ∷ lines_of (drop (suc (line_long (b ∷ text))) (b ∷ text))}
    (λ (t : eqb b 10 ≡ true). rw t)
    (λ (t : eqb b 10 ≡ false).
    let z : suc (line_long text) < suc (length text) = rw t at l in
    rw (t, lines-some text (omega arith)))
    (cases_Bool (eqb b 10))

-- ---- where the first line ends

line_is : (text : List ℕ) → position_or_len is_newline text ≡ line_long text
unfolding line_long
line_is [] = refl
line_is (b ∷ text) =
    ⊎_elim {C = position_or_len is_newline (b ∷ text) ≡ line_long (b ∷ text)}
    (λ (t : eqb b 10 ≡ true). rw t)
    (λ (t : eqb b 10 ≡ false). rw (t, line_is text) (omega arith))
    (cases_Bool (eqb b 10))

module _ (text : List ℕ) where
  -- no newline: no line
  pub read_none : position is_newline text ≡ None → lines_of text ≡ []
  read_none e =
      let n = position_or_len is_newline text in
      ⊎_elim {C = lines_of text ≡ []}
      (λ (l : n < length text). let z : ◌≡◌ {A = Option ℕ} (Some n) None = rw (lt-ltb n (length text) l) at e in cc)
      (λ (l : length text ≤ n). lines_none text (omega (arith, line_is text, long-most text)))
      (cases_lt n (length text))

  -- a newline: the bytes before it are the first line
  pub record Ends (end : ℕ) : Type 0 where
    pub inside : end < length text
    pub lines_are : lines_of text ≡ take end text ∷ lines_of (drop (end + 1) text)

  pub read-some : (end : ℕ) → position is_newline text ≡ Some end → Ends end
  read-some end e =
      let n = position_or_len is_newline text in
      ⊎_elim {C = Ends end}
      (λ (l : n < length text).
      let z : ◌≡◌ {A = Option ℕ} (Some n) (Some end) = rw (lt-ltb n (length text) l) at e in
      let same : n ≡ end = cc in
      let long : line_long text ≡ end = sym (line_is text) ∙ same in
      record { inside = omega arith; lines_are = rw (← long) (lines-some text (omega (arith, long)) ∙ ap (λ (k : ℕ). take (line_long text) text ∷ lines_of (drop k text)) (sym (add-one (line_long text)))) })
      (λ (l : length text ≤ n). let z : ◌≡◌ {A = Option ℕ} None (Some end) = rw (le-ltb n (length text) l) at e in cc)
      (cases_lt n (length text))

-- ---- what a line is

module _ (line : List ℕ) (b : ℕ) (e : get_or line 0 0 ≡ b) where
  -- a line with another first byte is no such line
  no-side : (first : ℕ) (name : List ℕ) → eqb b first ≡ false → is_side (first ∷ name) line ≡ false
  unfolding is_side starts_at
  no-side first name n = rw (e, n)

  no-text : (first : ℕ) (text : List ℕ) → eqb b first ≡ false → is_text (first ∷ text) line ≡ false
  unfolding is_text starts_at
  no-text first text n = rw (e, n)

-- the first byte of a line that gives a side
side-first : (first : ℕ) (name line : List ℕ) → is_side (first ∷ name) line ≡ true → get_or line 0 0 ≡ first
unfolding is_side starts_at
side-first first name line t =
    let a = and_parts _ (is_numeral (drop (length (first ∷ name)) line)) t in
    eqb-true (get_or line 0 0) first (and_parts (eqb (get_or line 0 0) first) (starts_at line 1 name) a.0).0

-- ---- what lines give

-- with those of further lines each field stands on one line and on no second, and no line has no place
unfoldable fits : Fields → List (List ℕ) → Bool
fits s lines =
    eqb (cond (is_some s.width) 1 0 + count_of (is_side width_name) lines) 1
    && eqb (cond (is_some s.height) 1 0 + count_of (is_side height_name) lines) 1
    && eqb (cond s.depth 1 0 + count_of (is_text depth_text) lines) 1
    && eqb (cond s.maxval 1 0 + count_of (is_text maxval_text) lines) 1
    && eqb (cond s.tupltype 1 0 + count_of (is_text tupltype_text) lines) 1
    && eqb (count_of is_other lines) 0

-- what that says, sum by sum
record Fits (s : Fields) (lines : List (List ℕ)) : Type 0 where
  one_width : cond (is_some s.width) 1 0 + count_of (is_side width_name) lines ≡ 1
  one_height : cond (is_some s.height) 1 0 + count_of (is_side height_name) lines ≡ 1
  one_depth : cond s.depth 1 0 + count_of (is_text depth_text) lines ≡ 1
  one_maxval : cond s.maxval 1 0 + count_of (is_text maxval_text) lines ≡ 1
  one_tupltype : cond s.tupltype 1 0 + count_of (is_text tupltype_text) lines ≡ 1
  no_other : count_of is_other lines ≡ 0

not-fits : (s : Fields) (lines : List (List ℕ)) → (Fits s lines → ⊥) → fits s lines ≡ false
unfolding fits
not-fits s lines f =
    let w = eqb (cond (is_some s.width) 1 0 + count_of (is_side width_name) lines) 1 in
    let h = eqb (cond (is_some s.height) 1 0 + count_of (is_side height_name) lines) 1 in
    let d = eqb (cond s.depth 1 0 + count_of (is_text depth_text) lines) 1 in
    let m = eqb (cond s.maxval 1 0 + count_of (is_text maxval_text) lines) 1 in
    let t = eqb (cond s.tupltype 1 0 + count_of (is_text tupltype_text) lines) 1 in
    ⊎_elim {C = fits s lines ≡ false}
    (λ (e : fits s lines ≡ true).
    let o5 = and_parts (w && h && d && m && t) (eqb (count_of is_other lines) 0) e in
    let o4 = and_parts (w && h && d && m) t o5.0 in
    let o3 = and_parts (w && h && d) m o4.0 in
    let o2 = and_parts (w && h) d o3.0 in
    let o1 = and_parts w h o2.0 in
    absurd
    (f
    (record {
      one_width = eqb-true _ _ o1.0;
      one_height = eqb-true _ _ o1.1;
      one_depth = eqb-true _ _ o2.1;
      one_maxval = eqb-true _ _ o3.1;
      one_tupltype = eqb-true _ _ o4.1;
      no_other = eqb-true _ _ o5.1;
    })))
    (λ (e : fits s lines ≡ false). e)
    (cases_Bool (fits s lines))

-- what the tests say of a line
record Tests (line : List ℕ) (w h d m t o : Bool) : Type 0 where
  width_is : is_side width_name line ≡ w
  height_is : is_side height_name line ≡ h
  depth_is : is_text depth_text line ≡ d
  maxval_is : is_text maxval_text line ≡ m
  tupltype_is : is_text tupltype_text line ≡ t
  other_is : is_other line ≡ o

other-by : {s w h d m t : Bool} (line : List ℕ) → is_skipped line ≡ s → is_side width_name line ≡ w → is_side height_name line ≡ h
    → is_text depth_text line ≡ d → is_text maxval_text line ≡ m → is_text tupltype_text line ≡ t
    → is_other line ≡ not (s || w || h || d || m || t)
unfolding is_other
other-by line s0 w0 h0 d0 m0 t0 = rw (s0, w0, h0, d0, m0, t0)

skipped-tests : (line : List ℕ) → is_skipped line ≡ true → Tests line false false false false false false
unfolding is_skipped
skipped-tests line e =
    ⊎_elim {C = Tests line false false false false false false}
    (λ (t : eqb (length line) 0 ≡ true). by 0 (get_or-eq_default line 0 (omega (arith, eqb-true (length line) 0 t))) refl refl refl refl refl)
    (λ (t : eqb (length line) 0 ≡ false).
    let first : eqb (get_or line 0 0) 35 ≡ true = rw t at e in by 35 (eqb-true (get_or line 0 0) 35 first) refl refl refl refl refl)
    (cases_Bool (eqb (length line) 0))
  where
    by : (b : ℕ) → get_or line 0 0 ≡ b → eqb b 87 ≡ false → eqb b 72 ≡ false → eqb b 68 ≡ false → eqb b 77 ≡ false → eqb b 84 ≡ false
        → Tests line false false false false false false
    by b f w0 h0 d0 m0 t0 =
        let w = no-side line b f 87 _ w0 in
        let h = no-side line b f 72 _ h0 in
        let d = no-text line b f 68 _ d0 in
        let m = no-text line b f 77 _ m0 in
        let t = no-text line b f 84 _ t0 in
        record { width_is = w; height_is = h; depth_is = d; maxval_is = m; tupltype_is = t; other_is = other-by line e w h d m t }

width-tests : (line : List ℕ) → is_skipped line ≡ false → is_side width_name line ≡ true → Tests line true false false false false false
width-tests line s e =
    let b = side-first 87 _ line e in
    let h = no-side line 87 b 72 _ refl in
    let d = no-text line 87 b 68 _ refl in
    let m = no-text line 87 b 77 _ refl in
    let t = no-text line 87 b 84 _ refl in
    record { width_is = e; height_is = h; depth_is = d; maxval_is = m; tupltype_is = t; other_is = other-by line s e h d m t }

height-tests : (line : List ℕ) → is_skipped line ≡ false → is_side width_name line ≡ false → is_side height_name line ≡ true
    → Tests line false true false false false false
height-tests line s w e =
    let b = side-first 72 _ line e in
    let d = no-text line 72 b 68 _ refl in
    let m = no-text line 72 b 77 _ refl in
    let t = no-text line 72 b 84 _ refl in
    record { width_is = w; height_is = e; depth_is = d; maxval_is = m; tupltype_is = t; other_is = other-by line s w e d m t }

-- a line that is one of the other texts
text-tests : {w h d m t o : Bool} (line text : List ℕ) → Tests text w h d m t o → is_text text line ≡ true → Tests line w h d m t o
text-tests {w} {h} {d} {m} {t} {o} line text k e = rw (text-is text line e) k

depth-tests : Tests depth_text false false true false false false
unfolding is_side is_text starts_at is_other is_skipped
depth-tests = record { width_is = refl; height_is = refl; depth_is = refl; maxval_is = refl; tupltype_is = refl; other_is = refl }

maxval-tests : Tests maxval_text false false false true false false
unfolding is_side is_text starts_at is_other is_skipped
maxval-tests = record { width_is = refl; height_is = refl; depth_is = refl; maxval_is = refl; tupltype_is = refl; other_is = refl }

tupltype-tests : Tests tupltype_text false false false false true false
unfolding is_side is_text starts_at is_other is_skipped
tupltype-tests = record { width_is = refl; height_is = refl; depth_is = refl; maxval_is = refl; tupltype_is = refl; other_is = refl }

-- ---- one more line

-- what is asked of further lines with it is what is asked of them after it, and the sides are those after it
record Same (s : Fields) (line : List ℕ) (s' : Fields) : Type 0 where
  fits_same : (lines : List (List ℕ)) → fits s (line ∷ lines) ≡ fits s' lines
  height_same : side_from height_name (unwrap_or s.height 0) line ≡ unwrap_or s'.height 0
  width_same : side_from width_name (unwrap_or s.width 0) line ≡ unwrap_or s'.width 0

abbrev Step : Fields → List ℕ → Option Fields → Type 0
Step s line None = (lines : List (List ℕ)) → fits s (line ∷ lines) ≡ false
Step s line (Some s') = Same s line s'

-- a field that was seen already makes two
twice : (s t : Bool) (n : ℕ) → s ≡ true → t ≡ true → cond s 1 0 + (cond t 1 0 + n) ≡ 1 → ⊥
twice s t n e f g = let z : 1 + (1 + n) ≡ 1 = rw (e, f) at g in omega arith

module _ (s : Fields) (line : List ℕ) where
  -- a line that is skipped changes nothing
  step-skipped : Tests line false false false false false false → Same s line s
  unfolding fits count_of side_from
  step-skipped k = record {
    fits_same = λ lines. rw (k.width_is, k.height_is, k.depth_is, k.maxval_is, k.tupltype_is, k.other_is) (simp zero-add);
    height_same = rw k.height_is;
    width_same = rw k.width_is;
  }

  -- a field stands already, or it is the one that changes
  unless : (t : Bool) (s' : Fields) → (t ≡ true → Step s line None) → (t ≡ false → Same s line s') → Step s line (cond t None (Some s'))
  unless true s' f g = f refl
  unless false s' f g = g refl

  step-width : Tests line true false false false false false → Step s line (cond (is_some s.width) None (Some (record s { width = Some (value_of (drop (length width_name) line)) })))
  unfolding fits count_of side_from
  step-width k =
      unless (is_some s.width) (record s { width = Some (value_of (drop (length width_name) line)) })
      (λ e lines. not-fits s (line ∷ lines) (λ f. twice _ _ _ e k.width_is f.one_width))
      (λ e. record {
        fits_same = λ lines. rw (e, k.width_is, k.height_is, k.depth_is, k.maxval_is, k.tupltype_is, k.other_is) (simp zero-add);
        height_same = rw k.height_is;
        width_same = rw k.width_is;
      })

  step-height : Tests line false true false false false false → Step s line (cond (is_some s.height) None (Some (record s { height = Some (value_of (drop (length height_name) line)) })))
  unfolding fits count_of side_from
  step-height k =
      unless (is_some s.height) (record s { height = Some (value_of (drop (length height_name) line)) })
      (λ e lines. not-fits s (line ∷ lines) (λ f. twice _ _ _ e k.height_is f.one_height))
      (λ e. record {
        fits_same = λ lines. rw (e, k.width_is, k.height_is, k.depth_is, k.maxval_is, k.tupltype_is, k.other_is) (simp zero-add);
        height_same = rw k.height_is;
        width_same = rw k.width_is;
      })

  step-depth : Tests line false false true false false false → Step s line (cond s.depth None (Some (record s { depth = true })))
  unfolding fits count_of side_from
  step-depth k =
      unless s.depth (record s { depth = true })
      (λ e lines. not-fits s (line ∷ lines) (λ f. twice _ _ _ e k.depth_is f.one_depth))
      (λ e. record {
        fits_same = λ lines. rw (e, k.width_is, k.height_is, k.depth_is, k.maxval_is, k.tupltype_is, k.other_is) (simp zero-add);
        height_same = rw k.height_is;
        width_same = rw k.width_is;
      })

  step-maxval : Tests line false false false true false false → Step s line (cond s.maxval None (Some (record s { maxval = true })))
  unfolding fits count_of side_from
  step-maxval k =
      unless s.maxval (record s { maxval = true })
      (λ e lines. not-fits s (line ∷ lines) (λ f. twice _ _ _ e k.maxval_is f.one_maxval))
      (λ e. record {
        fits_same = λ lines. rw (e, k.width_is, k.height_is, k.depth_is, k.maxval_is, k.tupltype_is, k.other_is) (simp zero-add);
        height_same = rw k.height_is;
        width_same = rw k.width_is;
      })

  step-tupltype : Tests line false false false false true false → Step s line (cond s.tupltype None (Some (record s { tupltype = true })))
  unfolding fits count_of side_from
  step-tupltype k =
      unless s.tupltype (record s { tupltype = true })
      (λ e lines. not-fits s (line ∷ lines) (λ f. twice _ _ _ e k.tupltype_is f.one_tupltype))
      (λ e. record {
        fits_same = λ lines. rw (e, k.width_is, k.height_is, k.depth_is, k.maxval_is, k.tupltype_is, k.other_is) (simp zero-add);
        height_same = rw k.height_is;
        width_same = rw k.width_is;
      })

  -- a line that has no place
  step-other : is_other line ≡ true → (lines : List (List ℕ)) → fits s (line ∷ lines) ≡ false
  unfolding count_of
  step-other e lines =
      not-fits s (line ∷ lines)
      (λ f. let z : 1 + count_of is_other lines ≡ 0 = rw e at f.no_other in omega arith)

  step : Step s line (with_line s line)
  step =
      by (is_skipped line) (is_side width_name line) (is_side height_name line) (is_text depth_text line) (is_text maxval_text line)
      (is_text tupltype_text line) refl refl refl refl refl refl
    where
      by : (k w h d m t : Bool) → is_skipped line ≡ k → is_side width_name line ≡ w → is_side height_name line ≡ h
          → is_text depth_text line ≡ d → is_text maxval_text line ≡ m → is_text tupltype_text line ≡ t
          → Step s line (with_line s line)
      by true w h d m t k0 w0 h0 d0 m0 t0 = rw k0 (step-skipped (skipped-tests line k0))
      by false true h d m t k0 w0 h0 d0 m0 t0 = rw (k0, w0) (step-width (width-tests line k0 w0))
      by false false true d m t k0 w0 h0 d0 m0 t0 = rw (k0, w0, h0) (step-height (height-tests line k0 w0 h0))
      by false false false true m t k0 w0 h0 d0 m0 t0 = rw (k0, w0, h0, d0) (step-depth (text-tests line depth_text depth-tests d0))
      by false false false false true t k0 w0 h0 d0 m0 t0 =
          rw (k0, w0, h0, d0, m0) (step-maxval (text-tests line maxval_text maxval-tests m0))
      by false false false false false true k0 w0 h0 d0 m0 t0 =
          rw (k0, w0, h0, d0, m0, t0) (step-tupltype (text-tests line tupltype_text tupltype-tests t0))
      by false false false false false false k0 w0 h0 d0 m0 t0 =
          rw (k0, w0, h0, d0, m0, t0) (step-other (other-by line k0 w0 h0 d0 m0 t0))

-- ---- the header that they give

-- before the first line
abbrev pub no_fields : Fields
no_fields = record { width = None; height = None; depth = false; maxval = false; tupltype = false }

-- the derived Default
pub nothing-seen : (s : Fields) → (s.width ≡ None) × ((s.height ≡ None) × ((s.depth ≡ false) × ((s.maxval ≡ false) × (s.tupltype ≡ false))))
    → s ≡ no_fields
nothing-seen s e =
    let whole : s ≡ record { width = s.width; height = s.height; depth = s.depth; maxval = s.maxval; tupltype = s.tupltype } = refl in
    whole ∙ rw (e.0, e.1.0, e.1.1.0, e.1.1.1.0, e.1.1.1.1)

-- the header whose further lines are these, the first of them at a place
unfoldable pub read_from : Option Fields → ℕ → List (List ℕ) → Option Header
read_from None at lines = None
read_from (Some s) at [] = None
read_from (Some s) at (line ∷ lines) =
    let next = at + length line + 1 in cond (is_text end_text line) (header_from s next) (read_from (with_line s line) next lines)

made : Bool → ℕ → ℕ → ℕ → Option Header
made t h w at = cond t (Some (record { height = h; width = w; body = at })) None

-- where no further line is asked for
header-fits : (s : Fields) (at : ℕ) → header_from s at ≡ made (fits s []) (unwrap_or s.height 0) (unwrap_or s.width 0) at
unfolding made fits count_of
header-fits s at = by s.width s.height s.depth s.maxval s.tupltype
  where
    by : (w h : Option ℕ) (d m t : Bool) → let s : Fields = record { width = w; height = h; depth = d; maxval = m; tupltype = t } in
        header_from s at ≡ made (fits s []) (unwrap_or h 0) (unwrap_or w 0) at
    by None None d m t = refl
    by None (Some h) d m t = refl
    by (Some w) None d m t = refl
    by (Some w) (Some h) false m t = refl
    by (Some w) (Some h) true false t = refl
    by (Some w) (Some h) true true false = refl
    by (Some w) (Some h) true true true = refl

-- the lines up to ENDHDR count, and the pixels stand after it
abbrev Reads : Fields → ℕ → List (List ℕ) → Type 0
Reads s at lines =
    let f = field_lines lines in
    read_from (Some s) at lines
    ≡ made (leb 1 (count_of (is_text end_text) lines) && fits s f) (side_in height_name (unwrap_or s.height 0) f)
    (side_in width_name (unwrap_or s.width 0) f) (at + bytes_of f + 7)

-- after a line that is not ENDHDR
further : (s : Fields) (at : ℕ) (line : List ℕ) (lines : List (List ℕ)) → ((s' : Fields) → Reads s' (at + length line + 1) lines)
    → (o : Option Fields) → Step s line o → let f = field_lines lines in
    read_from o (at + length line + 1) lines
    ≡ made (leb 1 (count_of (is_text end_text) lines) && fits s (line ∷ f))
    (side_in height_name (side_from height_name (unwrap_or s.height 0) line) f)
    (side_in width_name (side_from width_name (unwrap_or s.width 0) line) f) (at + (length line + 1 + bytes_of f) + 7)
unfolding made read_from
further s at line lines ih None k = rw (k (field_lines lines), and_no (leb 1 (count_of (is_text end_text) lines)))
further s at line lines ih (Some s') k =
    let f = field_lines lines in
    let n : at + (length line + 1 + bytes_of f) + 7 ≡ at + length line + 1 + bytes_of f + 7 = omega arith in
    rw (k.fits_same f, k.height_same, k.width_same, n) (ih s')

read_is : (s : Fields) (at : ℕ) (lines : List (List ℕ)) → Reads s at lines
unfolding made read_from count_of field_lines bytes_of side_in
read_is s at [] = refl
read_is s at (line ∷ lines) =
    ⊎_elim {C = Reads s at (line ∷ lines)}
    (λ (t : is_text end_text line ≡ true).
    let n : at + length line + 1 ≡ at + 0 + 7 = omega (arith, text-long end_text line t) in
    rw (t, le-leb 1 (1 + count_of (is_text end_text) lines) (omega arith), n) (header-fits s (at + 0 + 7)))
    (λ (t : is_text end_text line ≡ false).
    rw (t, zero-add (count_of (is_text end_text) lines))
    (further s at line lines (λ s'. read_is s' (at + length line + 1) lines) (with_line s line) (step s line)))
    (cases_Bool (is_text end_text line))

-- lines of which the first is P7 give the header of the definition
header_read : (rest : List (List ℕ)) → read_from (Some no_fields) 3 rest ≡ header_by (first_text ∷ rest)
unfolding made header_by are_lines_ok fields_ok fits bytes_of is_text starts_at
header_read rest = read_is no_fields 3 rest ∙ simp zero-add

-- ---- a line of a text whose front is read

module _ (front rest : List ℕ) (s : Fields) where
  -- where it has no newline
  pub read-nothing : position is_newline rest ≡ None → (at : ℕ) → None ≡ read_from (Some s) at (lines_of rest)
  unfolding read_from
  read-nothing e at = rw (read_none rest e)

  -- else the line is the bytes before the first, and more stands after it
  pub record Read (line more : List ℕ) : Type 0 where
    pub shorter : length more < length rest
    pub read_same : read_from (Some s) (length front - length rest) (lines_of rest)
        ≡ cond (is_text end_text line) (header_from s (length front - length more))
        (read_from (with_line s line) (length front - length more) (lines_of more))

  pub read-line : (end : ℕ) → position is_newline rest ≡ Some end → length rest ≤ length front
      → Read (take end rest) (take (length rest - (end + 1)) (drop (end + 1) rest))
  unfolding read_from
  read-line end e l =
      let ends = read-some rest end e in
      let inside = ends.inside in
      let less : length (drop (end + 1) rest) ≡ length rest - (end + 1) = length-drop (end + 1) rest in
      let all = take_all (length rest - (end + 1)) (drop (end + 1) rest) (omega arith) in
      let long : length (take end rest) ≡ end = length-take-le end rest (omega arith) in
      let next : length front - length rest + length (take end rest) + 1 ≡ length front - length (drop (end + 1) rest) = omega arith in
      rw all (record { shorter = omega arith; read_same = rw (ends.lines_are, next) })

  -- the line ENDHDR, and any other
  pub read-end : (line more : List ℕ) → Read line more → is_text end_text line ≡ true
      → header_from s (length front - length more) ≡ read_from (Some s) (length front - length rest) (lines_of rest)
  read-end line more r t = sym (r.read_same ∙ rw t)

  pub read_on : (line more : List ℕ) (o : Option Fields) → Read line more → is_text end_text line ≡ false → with_line s line ≡ o
      → read_from o (length front - length more) (lines_of more) ≡ read_from (Some s) (length front - length rest) (lines_of rest)
  read_on line more o r t e =
      sym (r.read_same ∙ rw t (ap (λ (q : Option Fields). read_from q (length front - length more) (lines_of more)) e))

-- ---- from the first bytes to the header

-- a text is that of its lines, with what stands after the last newline
pub lines-text : (text : List ℕ) → (tail : List ℕ) × (text ≡ text_of (lines_of text) ++ tail)
unfolding text_of lines_of in_front
lines-text [] = ([], refl)
lines-text (b ∷ text) =
    let r = lines-text text in
    ⊎_elim {C = (tail : List ℕ) × (b ∷ text ≡ text_of (lines_of (b ∷ text)) ++ tail)}
    (λ (t : eqb b 10 ≡ true). rw t (r.0, rw (eqb-true b 10 t) (ap (λ (l : List ℕ). 10 ∷ l) r.1)))
    (λ (t : eqb b 10 ≡ false). rw t (in-front b text (lines_of text) r.0 r.1))
    (cases_Bool (eqb b 10))
  where
    in-front : (b : ℕ) (text : List ℕ) (lines : List (List ℕ)) (tail : List ℕ) → text ≡ text_of lines ++ tail
        → (tail' : List ℕ) × (b ∷ text ≡ text_of (in_front b lines) ++ tail')
    in-front b text [] tail e = (b ∷ text, refl)
    in-front b text (line ∷ lines) tail e = (tail, ap (λ (l : List ℕ). b ∷ l) e)

pub first-line : (lines : List (List ℕ)) → is_text first_text (get_or lines 0 []) ≡ true → lines ≡ first_text ∷ drop 1 lines
unfolding is_text starts_at
first-line [] e = not-both false e refl
first-line (line ∷ lines) e = ap (λ (x : List ℕ). x ∷ lines) (text-is first_text line e)

-- P7 with its newline is the first line where the text begins so, and only there
abbrev p7 : List ℕ
p7 = 80 ∷ 55 ∷ 10 ∷ []

module _ (front : List ℕ) where
  pub first_is : pointwise eqb (take 3 front) p7 ≡ true
      → read_from (Some no_fields) 3 (lines_of (drop 3 front)) ≡ header_by (lines_of front)
  unfolding lines_of in_front
  first_is e =
      let begins = (bytes_eq-Decides (take 3 front) p7).0 e in
      let whole : front ≡ p7 ++ drop 3 front = sym (take-append-drop 3 front) ∙ ap (λ (l : List ℕ). l ++ drop 3 front) begins in
      let lines : lines_of front ≡ first_text ∷ lines_of (drop 3 front) = ap lines_of whole in
      header_read (lines_of (drop 3 front)) ∙ ap header_by (sym lines)

  pub first-not : pointwise eqb (take 3 front) p7 ≡ false → header_by (lines_of front) ≡ None
  unfolding text_of header_by are_lines_ok
  first-not e =
      let lines = lines_of front in
      let last = lines-text front in
      ⊎_elim {C = header_by lines ≡ None}
      (λ (t : is_text first_text (get_or lines 0 []) ≡ true).
      let split : front ≡ p7 ++ (text_of (drop 1 lines) ++ last.0) =
      last.1 ∙ ap (λ (ls : List (List ℕ)). text_of ls ++ last.0) (first-line lines t) in
      let begins : take 3 front ≡ p7 = ap (take 3) split in
      not-both _ ((bytes_eq-Decides (take 3 front) p7).1 begins) e)
      (λ (t : is_text first_text (get_or lines 0 []) ≡ false). rw t)
      (cases_Bool (is_text first_text (get_or lines 0 [])))
