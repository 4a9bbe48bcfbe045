-- Every header that was accepted at first is accepted still, with the same sides and the same place of the pixels (R80).
-- Assumes nothing.
use mathlib.Core.Path.{◌≡◌, refl, sym, ap, ◌∙◌}
use mathlib.Core.Bool.{Bool, true, false, cond, not, ◌&&◌, ◌||◌}
use mathlib.Core.List.{List, [], ◌∷◌, ◌++◌, append_assoc}
use mathlib.Core.Logic.{⊎_elim}
use Prim.Native.Nat.{ℕ, ◌+◌, ◌≤◌}
use native.Mathlib.Omega.{arith}
use lib.Dec.{eqb, leb}
use lib.ListN.{length, get_or, take, drop, length-append, take-append-drop, length-drop, get_or-append}
use lib.Seq.{drop-drop, length-take-le}
use borrow.Author.Tests.{ne_eqb, le-leb, leb-true}
use Rattle.std.specs.Option.{IsSome}
use Rattle.plane.proofs.Search.{not-both}
use Rattle.std.proofs.lemmas.Bool.{and_from, and_parts, cases_Bool, not_from_false, or_right}
use Rattle.text.specs.Decimal.{is_digit, all_digits, value_of, number_upto}
use Rattle.text.proofs.Decimal.{digit-is, digits-most, stand}
use Rattle.pam_header.specs.Header.{count_of, starts_at, most_digits, is_text, is_numeral, is_side, is_skipped, is_other}
use Rattle.pam_header.specs.Header.{width_name, height_name, depth_text, maxval_text, tupltype_text, fields_ok, header_of}
use Rattle.pam_header.specs.HeaderText.{is_plain, all_plain, text_of, header_text, Lines, said_by}
use Rattle.pam_header.specs.EarlierHeader.{width_text, height_text, tail_text, digits_at, is_number}
use Rattle.pam_header.specs.EarlierHeader.{width_at, middle_at, height_at, tail_at, body_at, width_of, height_of, earlier_ok, earlier_of}
use Rattle.pam_header.proofs.Comparing.{byte-first, no_zero, starts-split}
use Rattle.pam_header.proofs.Numbers.{numeral}
use Rattle.pam_header.proofs.Sides.{side-given}
use Rattle.pam_header.proofs.HeaderLaws.{header-accepted}

-- ---- an input that was accepted starts with a header in the one order

-- the parts of that header
record Parts (input : List ℕ) : Type 0 where
  text_first : starts_at input 0 width_text ≡ true
  width_there : is_number input width_at ≡ true
  middle_text : starts_at input (middle_at input) height_text ≡ true
  height_there : is_number input (height_at input) ≡ true
  last_text : starts_at input (tail_at input) tail_text ≡ true

parts : (input : List ℕ) → earlier_ok input ≡ true → Parts input
unfolding earlier_ok
parts input e =
    let s = starts_at input 0 width_text in
    let w = is_number input width_at in
    let m = starts_at input (middle_at input) height_text in
    let h = is_number input (height_at input) in
    let t = starts_at input (tail_at input) tail_text in
    let a = and_parts (s && w && m && h) t e in
    let b = and_parts (s && w && m) h a.0 in
    let c = and_parts (s && w) m b.0 in
    let d = and_parts s w c.0 in
    record { text_first = d.0; width_there = d.1; middle_text = c.1; height_there = b.1; last_text = a.1 }

module _ (input : List ℕ) where
  -- the digits that stand at a place, and what follows them
  there : ℕ → List ℕ
  there at = take (digits_at input at) (drop at input)

  there-split : (at : ℕ) → drop at input ≡ there at ++ drop (at + digits_at input at) input
  unfolding there
  there-split at =
      let n = digits_at input at in
      sym (take-append-drop n (drop at input)) ∙ ap (λ (q : List ℕ). there at ++ q) (drop-drop n at input)

  there-long : (at : ℕ) → 1 ≤ digits_at input at → length (there at) ≡ digits_at input at
  unfolding there
  there-long at l = length-take-le (digits_at input at) (drop at input) (rw length-drop (omega (arith, (stand input most_digits at).inside l)))

  -- a number there
  record There (at : ℕ) : Type 0 where
    number : is_numeral (there at) ≡ true
    long : length (there at) ≡ digits_at input at

  there-is : (at : ℕ) → is_number input at ≡ true → There at
  unfolding is_number is_numeral there
  there-is at e =
      let a = and_parts (leb 1 (digits_at input at)) (not (eqb (get_or input at 0) 48)) e in
      let n = leb-true 1 (digits_at input at) a.0 in
      let m = there-long at n in
      let first = ap (λ (q : List ℕ). get_or q 0 0) (there-split at) ∙ get_or-append (there at) _ 0 0 (omega (arith, m, n)) in
      let b : get_or input at 0 ≡ get_or (there at) 0 0 = byte-first input at ∙ first in
      let few = le-leb (length (there at)) most_digits (omega (arith, m, digits-most input most_digits at)) in
      let some = le-leb 1 (length (there at)) (omega (arith, m, n)) in
      record { number = rw ((stand input most_digits at).all, few, some, ← b) a.1; long = m }

-- these digits of width and height, in the one order
earlier_text : List ℕ → List ℕ → List ℕ
earlier_text w h = width_text ++ (w ++ (height_text ++ (h ++ tail_text)))

record HasEarlier (input : List ℕ) : Type 0 where
  width : List ℕ
  height : List ℕ
  rest : List ℕ
  width_numeral : is_numeral width ≡ true
  height_numeral : is_numeral height ≡ true
  width_is : width_of input ≡ value_of width
  height_is : height_of input ≡ value_of height
  body_is : body_at input ≡ length (earlier_text width height)
  input_is : input ≡ earlier_text width height ++ rest

texts-some : (no_zero width_text ≡ true) × (no_zero height_text ≡ true) × (no_zero tail_text ≡ true)
unfolding no_zero
texts-some = (refl, refl, refl)

earlier-long : (w h : List ℕ) → length (earlier_text w h) ≡ 63 + length w + length h
unfolding earlier_text
earlier-long w h = simp length-append (omega arith)

earlier-means : (input : List ℕ) → earlier_ok input ≡ true → HasEarlier input
unfolding middle_at height_at tail_at body_at width_of height_of number_upto there earlier_text
earlier-means input o =
    let p = parts input o in
    let w = there input width_at in
    let h = there input (height_at input) in
    let rest = drop (tail_at input + 46) input in
    let v = there-is input width_at p.width_there in
    let t = there-is input (height_at input) p.height_there in
    let e4 : drop (tail_at input) input ≡ tail_text ++ rest = starts-split input tail_text (tail_at input) texts-some.2 p.last_text in
    let e3 : drop (height_at input) input ≡ (h ++ tail_text) ++ rest =
    there-split input (height_at input) ∙ ap (λ (q : List ℕ). h ++ q) e4 ∙ sym (append_assoc h tail_text rest) in
    let e2 : drop (middle_at input) input ≡ height_text ++ ((h ++ tail_text) ++ rest) =
    starts-split input height_text (middle_at input) texts-some.1 p.middle_text ∙ ap (λ (q : List ℕ). height_text ++ q) e3 in
    let e1 : drop width_at input ≡ (w ++ (height_text ++ (h ++ tail_text))) ++ rest =
    there-split input width_at ∙ ap (λ (q : List ℕ). w ++ q) e2 ∙ sym (append_assoc w (height_text ++ (h ++ tail_text)) rest) in
    record {
      width = w;
      height = h;
      rest = rest;
      width_numeral = v.number;
      height_numeral = t.number;
      width_is = refl;
      height_is = refl;
      body_is = omega (arith, v.long, t.long, earlier-long w h);
      input_is = starts-split input width_text 0 texts-some.0 p.text_first ∙ ap (λ (q : List ℕ). width_text ++ q) e1;
    }

-- ---- these lines, in this order, make a header

module _ (w h : List ℕ) (m : is_numeral w ≡ true) (n : is_numeral h ≡ true) where
  lines : List (List ℕ)
  lines = (width_name ++ w) ∷ (height_name ++ h) ∷ depth_text ∷ maxval_text ∷ tupltype_text ∷ []

  text-is : earlier_text w h ≡ header_text lines
  unfolding earlier_text header_text text_of lines
  text-is = refl

  digits-plain : (l : List ℕ) → all_digits l ≡ true → is_plain l ≡ true
  unfolding all_digits is_plain
  digits-plain [] d = refl
  digits-plain (b ∷ l) d =
      let a = and_parts (is_digit b) (all_digits l) d in
      let k = digit-is b a.0 in
      and_from _ _ (not_from_false _ (ne_eqb b 10 (λ e. omega (arith, k.least)))) (digits-plain l a.1)

  lines-plain : all_plain lines ≡ true
  unfolding all_plain is_plain lines
  lines-plain = rw (digits-plain w (numeral w m).digits, digits-plain h (numeral h n).digits)

  -- on how many of five lines a test holds
  count : (test : List ℕ → Bool) {t1 t2 t3 t4 t5 : Bool} → test (width_name ++ w) ≡ t1 → test (height_name ++ h) ≡ t2 → test depth_text ≡ t3
      → test maxval_text ≡ t4 → test tupltype_text ≡ t5
      → count_of test lines ≡ cond t1 1 0 + (cond t2 1 0 + (cond t3 1 0 + (cond t4 1 0 + (cond t5 1 0 + 0))))
  unfolding count_of lines
  count test e1 e2 e3 e4 e5 = rw (e1, e2, e3, e4, e5)

  wide : is_side width_name (width_name ++ w) ≡ true
  wide = side-given width_name w m

  tall : is_side height_name (height_name ++ h) ≡ true
  tall = side-given height_name h n

  wide-known : is_other (width_name ++ w) ≡ false
  unfolding is_other
  wide-known = rw (wide, or_right (is_skipped (width_name ++ w)) true refl)

  tall-known : is_other (height_name ++ h) ≡ false
  unfolding is_other
  tall-known = rw (tall, or_right (is_skipped (height_name ++ h) || is_side width_name (height_name ++ h)) true refl)

  lines-fields : fields_ok lines ≡ true
  unfolding fields_ok is_other is_skipped is_side is_text starts_at
  lines-fields =
      rw (
        count (is_side width_name) {t1 = true} {t2 = false} {t3 = false} {t4 = false} {t5 = false} wide refl refl refl refl,
        count (is_side height_name) {t1 = false} {t2 = true} {t3 = false} {t4 = false} {t5 = false} refl tall refl refl refl,
        count (is_text depth_text) {t1 = false} {t2 = false} {t3 = true} {t4 = false} {t5 = false} refl refl refl refl refl,
        count (is_text maxval_text) {t1 = false} {t2 = false} {t3 = false} {t4 = true} {t5 = false} refl refl refl refl refl,
        count (is_text tupltype_text) {t1 = false} {t2 = false} {t3 = false} {t4 = false} {t5 = true} refl refl refl refl refl,
        count is_other {t1 = false} {t2 = false} {t3 = false} {t4 = false} {t5 = false} wide-known tall-known refl refl refl,
      )

  lines-header : Lines w h lines
  unfolding lines
  lines-header =
      record {
        plain = lines-plain;
        fields = lines-fields;
        short = rw (← text-is, earlier-long w h) (omega (arith, (numeral w m).few, (numeral h n).few));
        width_stands = record { before = []; after = drop 1 lines; lines_are = refl; number = m };
        height_stands = record { before = (width_name ++ w) ∷ []; after = drop 2 lines; lines_are = refl; number = n };
      }

-- ---- what an earlier header said is said still

pub earlier-same : (input : List ℕ) → IsSome (earlier_of input) → header_of input ≡ earlier_of input
unfolding earlier_of said_by
earlier-same input o =
    ⊎_elim {C = header_of input ≡ earlier_of input}
    (λ (t : earlier_ok input ≡ true).
    let e = earlier-means input t in
    let w = e.width in
    let h = e.height in
    let same = text-is w h e.width_numeral e.height_numeral in
    let as-text : input ≡ header_text (lines w h e.width_numeral e.height_numeral) ++ e.rest =
    e.input_is ∙ ap (λ (l : List ℕ). l ++ e.rest) same in
    ap header_of as-text
    ∙ header-accepted w h _ e.rest (lines-header w h e.width_numeral e.height_numeral)
    ∙ rw (t, e.width_is, e.height_is, e.body_is, same))
    (λ (t : earlier_ok input ≡ false). let z : false ≡ true = rw t at o in not-both false z refl)
    (cases_Bool (earlier_ok input))
