-- Laws of the line pass along a row: the steps of its columns, and the running count through them.
-- Assumes nothing.
use Rattle.std.proofs.Common.{◌≡◌, ℕ, zero, suc, ◌+◌, ◌-◌, ◌*◌, ◌<◌, ◌≤◌, min, Bool, true, false, ◌&&◌, eqb, ltb, leb, List, length, get_or, take, drop, sym, refl, ap, ◌∙◌, ⊎_elim, add-zero, arith, le-ltb, lt-ltb, eqb-true}
use borrow.Author.Tests.{not-false}
use borrow.Rule.Slice.PartMut.{put_mid}
use Rattle.plane.specs.Search.{some_below, count_below}
use Rattle.plane.specs.Plane.{on, bit, on_at, apart, table}
use Rattle.plane.specs.Mask.{is_on, mask_of}
use Rattle.plane.specs.Box.{lesser_of}
use Rattle.plane.proofs.Search.{none_found, some_same, count_same}
use Rattle.std.proofs.lemmas.Bool.{cases_lt}
use Rattle.std.proofs.Common.{rules, replicate}
use Rattle.std.proofs.lemmas.List.{places, length-replicate, get_or-replicate, get_or-take}
use Rattle.std.specs.Int.{from_bool}
use Rattle.plane.proofs.Plane.{row_in, table-length, table_at, table_is, table_same, from_bool-bit}
use Rattle.plane.proofs.Mask.{mask-length, mask_at, mask-same}
use Rattle.counts.specs.Running.{window_count, enters, leaves, running}
use Rattle.counts.specs.steps.Window.{in_window}
use Rattle.counts.specs.steps.Parts.{full_byte, rest_of, changed, step_of, moved_line, Split}
use Rattle.row_counts.specs.steps.Rows.{change_line, tally, ran_line, counted_part, dilated_row, Block, Steppable, Stepped}
use Rattle.counts.proofs.Counting.{window-some, leaves-held, running-count}
use Rattle.counts.proofs.Parts.{not-moved, moved-small, split-new, split_step, split-test}
use Rattle.counts.proofs.Begun.{Begun, begun-none, begun-end}
use Rattle.counts.proofs.Put.{part_at, part_length, put-length, put_front, put-part, put_back, begun-part}
use Rattle.plane.proofs.Bounds.{lesser-min}

-- ---- the steps

-- m bytes from s on are moved by the pixels of a row from pixel a on: they are as many, and each is changed where its pixel is on
module _ (row old new : List ℕ) (a n s m change : ℕ) (fits : s + m ≤ length old) (size : n ≡ m)
    (made : new ≡ moved_line (take n (drop a row)) change (take m (drop s old))) where
  moved-long : length new ≡ m
  unfolding moved_line
  moved-long = ap length made ∙ table-length _ 0 _ ∙ part_length old s m fits

  moved_in : (i : ℕ) → s ≤ i → i < s + m → get_or (put_mid s m old new) i 0 ≡ changed (get_or old i 0) (is_on row (a + (i - s))) change
  unfolding moved_line is_on
  moved_in i l g =
      let q : s + (i - s) ≡ i = omega arith in
      let z : get_or (put_mid s m old new) (s + (i - s)) 0 ≡ changed (get_or old (s + (i - s)) 0) (is_on row (a + (i - s))) change =
      put-part s m old new fits moved-long (i - s) (omega arith)
      ∙ ap (λ (u : List ℕ). get_or u (i - s) 0) made
      ∙ table_at _ _ (i - s) 0 (omega (arith, part_length old s m fits))
      ∙ rw (part_at old s m (i - s) (omega arith), part_at row a n (i - s) (omega arith)) in
      rw q at z

module _ {row steps : List ℕ} (k : ℕ) {c : ℕ} (p : Steppable row c steps) where
  -- first the pixels that enter move the first bytes, as far as the row has pixels,
  module _ {a b : ℕ} {new : List ℕ} (start : a ≡ min (length row) (c + k)) (end : b ≡ min (length row) (c + length steps + k))
      (made : new ≡ moved_line (take (b - a) (drop a row)) 1 (take (b - a) steps)) where
    abbrev one : List ℕ
    one = put_mid 0 (b - a) steps new

    fits : 0 + (b - a) ≤ length steps
    fits = omega arith

    entered-length : length one ≡ length steps
    entered-length = put-length 0 (b - a) steps new fits (moved-long row steps new a (b - a) 0 (b - a) 1 fits refl made)

    entered : (i : ℕ) → i < length steps → get_or one i 0 ≡ changed 0 (enters (length row) k (is_on row) (c + i)) 1
    unfolding enters
    entered i l =
        ⊎_elim {C = get_or one i 0 ≡ changed 0 (ltb (c + i + k) (length row) && is_on row (c + i + k)) 1}
        (λ (g : i < b - a).
        let q : a + (i - 0) ≡ c + i + k = omega arith in
        let near : c + i + k < length row = omega arith in
        let z = moved_in row steps new a (b - a) 0 (b - a) 1 fits refl made i (omega arith) (omega arith) in
        rw (lt-ltb (c + i + k) (length row) near) (rw (q, p.zeros i l) at z))
        (λ (g : b - a ≤ i).
        put_back 0 (b - a) steps new fits (moved-long row steps new a (b - a) 0 (b - a) 1 fits refl made) i (omega arith)
        ∙ p.zeros i l
        ∙ rw (le-ltb (c + i + k) (length row) (omega (arith, p.inside))) (sym (not-moved 0 1 (omega arith))))
        (cases_lt i (b - a))

    -- then those that leave move the last, as far as there are pixels that far back
    module _ {new' : List ℕ} {d e : ℕ} (start' : d ≡ c - (k + 1)) (end' : e ≡ c + length steps - (k + 1))
        (made' : let s = length steps - (e - d) in new' ≡ moved_line (take (e - d) (drop d row)) 255 (take (length one - s) (drop s one))) where
      abbrev s : ℕ
      s = length steps - (e - d)

      abbrev m : ℕ
      m = length one - s

      abbrev two : List ℕ
      two = put_mid s m one new'

      inside : s + m ≤ length one
      inside = omega (arith, entered-length)

      rest : e - d ≡ m
      rest = omega (arith, entered-length)

      left : (i : ℕ) → i < length steps
          → get_or two i 0 ≡ step_of (enters (length row) k (is_on row) (c + i)) (leaves k (is_on row) (c + i))
      unfolding leaves
      left i l =
          ⊎_elim {C = get_or two i 0 ≡ step_of (enters (length row) k (is_on row) (c + i)) (ltb k (c + i) && is_on row (c + i - (k + 1)))}
          (λ (g : i < s).
          put_front s m one new' inside (moved-long row one new' d (e - d) s m 255 inside rest made') i g
          ∙ entered i l
          ∙ rw (le-ltb k (c + i) (omega arith)) (sym (not-moved (changed 0 (enters (length row) k (is_on row) (c + i)) 1) 255
          (moved-small 0 (enters (length row) k (is_on row) (c + i)) 1))))
          (λ (g : s ≤ i).
          let q : d + (i - s) ≡ c + i - (k + 1) = omega arith in
          let z = moved_in row one new' d (e - d) s m 255 inside rest made' i g (omega (arith, entered-length)) in
          rw (lt-ltb k (c + i) (omega arith)) (rw (q, entered i l) at z))
          (cases_lt i s)

      pub ends-stepped : Stepped row k c two
      ends-stepped =
          let long = put-length s m one new' inside (moved-long row one new' d (e - d) s m 255 inside rest made') in
          record { each = λ i l. left i (omega (arith, entered-length)) }

-- where a pixel enters and one leaves at each of m columns, the steps are had at once
pub change-stepped : {row steps new : List ℕ} {k c a b m : ℕ} → Steppable row c steps → k < c → c + m + k ≤ length row
    → m ≡ length steps → a ≡ c + k → b ≡ c - k - 1
    → new ≡ change_line (take (a + m - a) (drop a row)) (take (b + m - b) (drop b row)) → Stepped row k c new
unfolding change_line enters leaves is_on
change-stepped {row} {steps} {new} {k} {c} {a} {b} {m} p near inside size start end made =
    let enter = take (a + m - a) (drop a row) in
    let leave = take (b + m - b) (drop b row) in
    let f : ℕ → ℕ = λ (x : ℕ). step_of (is_on enter x) (is_on leave x) in
    let long : length enter ≡ m = part_length row a (a + m - a) (omega arith) ∙ omega arith in
    let size : length new ≡ m = ap length made ∙ table-length f 0 (length enter) ∙ long in
    record {
      each =
          λ i l.
          let q : c + i + k ≡ a + i = omega arith in
          let r : c + i - (k + 1) ≡ b + i = omega arith in
          ap (λ (u : List ℕ). get_or u i 0) made
          ∙ table_at f (length enter) i 0 (omega arith)
          ∙ rw (
            lt-ltb (c + i + k) (length row) (omega arith),
            lt-ltb k (c + i) (omega arith),
            q,
            r,
            part_at row a (a + m - a) i (omega arith),
            part_at row b (b + m - b) i (omega arith),
          ) refl;
    }

-- ---- the running count through the steps

-- a step that is 0 leaves the count as it is
no_step : (e l : Bool) → step_of e l ≡ 0 → bit e ≡ bit l
unfolding changed bit
no_step true true z = refl
no_step true false z = absurd (omega arith)
no_step false true z = absurd (omega arith)
no_step false false z = refl

-- a byte that is off is 0
off_zero : (v : ℕ) → on v ≡ false → v ≡ 0
unfolding on
off_zero v e = eqb-true v 0 (not-false (eqb v 0) e)

-- as many zeros as a block has columns
pub block-long : {row out : List ℕ} {k c n : ℕ} → Block row k c n out → length (take (length out) (replicate {A = ℕ} 256 0)) ≡ length out
block-long b = search (rules, places, b.short)

pub block-steppable : {row out : List ℕ} {k c n : ℕ} → Block row k c n out → Steppable row c (take (length out) (replicate 256 0))
block-steppable {row} {out} b =
    let long = block-long b in
    record {
      inside = omega (arith, b.inside, long);
      zeros = λ i l. get_or-take (length out) _ i 0 (omega arith) ∙ get_or-replicate 256 i 0 0 (omega (arith, b.short));
    }

-- the steps of m columns
module _ {row steps : List ℕ} {k c m : ℕ} (p : Stepped row k c steps) (size : length steps ≡ m) (inside : c + m ≤ length row) where
  -- the running value before column c + x, and whether an on-pixel enters and leaves there
  abbrev value : ℕ → ℕ
  value x = running (length row) k (is_on row) (c + x)

  abbrev comes : ℕ → Bool
  comes x = enters (length row) k (is_on row) (c + x)

  abbrev goes : ℕ → Bool
  goes x = leaves k (is_on row) (c + x)

  value-more : (x : ℕ) → value (x + 1) ≡ value x + bit (comes x) - bit (goes x)
  value-more x = let q : c + (x + 1) ≡ suc (c + x) = omega arith in rw q (unfold running in refl)

  -- after a step it is the count of the column's window
  value-count : (x : ℕ) → x < m → value (x + 1) ≡ window_count (length row) k (c + x) (is_on row)
  value-count x l =
      let q : c + (x + 1) ≡ suc (c + x) = omega arith in
      rw q (running-count (length row) k (is_on row) (c + x) (omega arith))

  -- where every step is 0, it stays as it is
  module _ (none : some_below (length steps) (is_on steps) ≡ false) where
    value_same : (x : ℕ) → x ≤ m → value x ≡ value 0
    unfolding is_on
    value_same zero l = refl
    value_same (suc x) l =
        let here : x < length steps = omega arith in
        let z : get_or steps x 0 ≡ 0 = off_zero (get_or steps x 0) (none_found (is_on steps) (length steps) none x here) in
        let same = no_step (comes x) (goes x) (sym (p.each x here) ∙ z) in
        let q : suc x ≡ x + 1 = omega arith in
        rw q (omega (arith, value-more x, value_same x (omega arith)))

    -- so one byte serves for every pixel, and n is the value after them
    pub same-part : (n : ℕ) → n ≡ value 0 → replicate m (from_bool (ltb 0 n)) ≡ counted_part row k c m
    unfolding counted_part mask_of
    same-part n e =
        table_is (λ (i : ℕ). from_bool (ltb 0 n)) m _ 0 (length-replicate m _) (λ i l. get_or-replicate m i _ 0 l)
        ∙ table_same _ _ m 0
        (λ i l. from_bool-bit _ ∙ ap (λ (u : ℕ). bit (ltb 0 u)) (e ∙ sym (value_same (i + 1) (omega arith)) ∙ value-count i l))

    pub same-value : (n : ℕ) → n ≡ value 0 → n ≡ value m
    same-value n e = e ∙ sym (value_same m (omega arith))

  -- a byte runs through j of the steps, from step x on, with the value n before them
  module _ (x j : ℕ) {n : ℕ} {part : List ℕ} (here : part ≡ take j (drop x steps)) (fits : x + j ≤ m) (short : j ≤ 127)
      (start : n ≡ value x) where
    long : length part ≡ j
    long = ap length here ∙ part_length steps x j (omega arith)

    -- with the rest of n it is the value, and it is 0 only where the value is
    split_after : (i : ℕ) → i ≤ j → Split (value (x + i)) i (tally part (full_byte n) i) (rest_of n)
    unfolding tally
    split_after zero l = rw (add-zero, sym start) (split-new n)
    split_after (suc i) l =
        let held = leaves-held (length row) k (is_on row) (c + (x + i)) (omega arith) in
        let s = split_step (split_after i (omega arith)) (comes (x + i)) (goes (x + i)) (omega arith) held in
        let q : x + i + 1 ≡ x + suc i = omega arith in
        let t : i + 1 ≡ suc i = omega arith in
        let step : get_or part i 0 ≡ step_of (comes (x + i)) (goes (x + i)) =
        ap (λ (u : List ℕ). get_or u i 0) here ∙ part_at steps x j i l ∙ p.each (x + i) (omega arith) in
        rw (step, sym q, sym t, value-more (x + i)) s

    -- so at each pixel their sum is the count of its window,
    pub ran-count : (i : ℕ) → i < j → rest_of n + tally part (full_byte n) (i + 1) ≡ window_count (length row) k (c + (x + i)) (is_on row)
    ran-count i l =
        let q : x + (i + 1) ≡ x + i + 1 = omega arith in
        let s = (split_after (i + 1) (omega arith)).sum in
        omega (arith, rw q at s, value-count (x + i) (omega arith))

    -- each pixel that is written tells whether its window has an on-pixel, and the sum at the end is the value there
    ran-at : (i : ℕ) → i < j → get_or (ran_line part (full_byte n)) i 0 ≡ bit (ltb 0 (window_count (length row) k (c + (x + i)) (is_on row)))
    unfolding ran_line
    ran-at i l =
        let q : x + (i + 1) ≡ x + i + 1 = omega arith in
        mask_at (length part) (λ (j : ℕ). on (tally part (full_byte n) (j + 1))) i (omega (arith, long))
        ∙ ap bit (split-test (split_after (i + 1) (omega arith)) (omega arith) ∙ rw q (ap (ltb 0) (value-count (x + i) (omega arith))))

    ran-value : rest_of n + tally part (full_byte n) (length part) ≡ value (x + j)
    ran-value = rw long (omega (arith, (split_after j (omega arith)).sum))

    ran-length : length (ran_line part (full_byte n)) ≡ j
    unfolding ran_line
    ran-length = mask-length (length part) (λ (j : ℕ). on (tally part (full_byte n) (j + 1))) ∙ long

-- of m columns from column c on of a row the first x are written, and n is the running value before column c + x
pub record Reached (row : List ℕ) (k c m n : ℕ) (out : List ℕ) (x : ℕ) : Type 0 where
  pub value : n ≡ running (length row) k (is_on row) (c + x)
  pub written : Begun (λ (i : ℕ). bit (ltb 0 (window_count (length row) k (c + i) (is_on row)))) m out x

module _ {row out : List ℕ} {k c n : ℕ} where
  -- a byte runs through the steps from step x to step e, which is y
  pub reached-run : {steps new : List ℕ} {m v x e y : ℕ} → Stepped row k c steps → length steps ≡ m → c + m ≤ length row
      → Reached row k c m n out x → x ≤ e → e ≤ m → e - x ≤ 127 → e ≡ y
      → (let part = take (e - x) (drop x steps) in
      v ≡ rest_of n + tally part (full_byte n) (length part) → new ≡ ran_line part (full_byte n)
      → Reached row k c m v (put_mid x (e - x) out new) y)
  reached-run {steps} {new} {m} {v} {x} {e} p size inside r le most short here value made =
      let j = e - x in
      let q = (let z : x + j ≡ e = omega arith in z ∙ here) in
      let fits : x + j ≤ m = omega arith in
      let part = begun-part j new r.written fits (ap length made ∙ ran-length p size inside x j refl fits short r.value)
      (λ i g. ap (λ (u : List ℕ). get_or u i 0) made ∙ ran-at p size inside x j refl fits short r.value i g) in
      record {
        value = value ∙ ran-value p size inside x j refl fits short r.value ∙ ap (λ (j : ℕ). running (length row) k (is_on row) (c + j)) q;
        written = rw q at part;
      }

  -- at the end the columns are
  pub reached-all : {m x : ℕ} → Reached row k c m n out x → m ≡ x
      → record { value : n ≡ running (length row) k (is_on row) (c + m); out_after : out ≡ counted_part row k c m }
  unfolding counted_part mask_of
  reached-all r e = record { value = r.value ∙ rw e; out_after = begun-end r.written (omega arith) }

-- ---- the rows that are written

-- of a row the first c pixels are written, and n is the running value before column c
pub record Written (row : List ℕ) (k n : ℕ) (out : List ℕ) (c : ℕ) : Type 0 where
  pub value : n ≡ running (length row) k (is_on row) c
  pub pixels : Begun (λ (i : ℕ). bit (in_window (length row) k i (is_on row))) (length row) out c

module _ {row out : List ℕ} {k n : ℕ} where
  pub written-none : {first : ℕ} → first ≡ min (length row) k → n ≡ count_below (length (take first row)) (is_on (take first row))
      → length out ≡ length row → Written row k n out 0
  unfolding running is_on
  written-none {first} e value size =
      let long : length (take first row) ≡ lesser_of k (length row) =
      part_length row 0 first (omega arith) ∙ omega (arith, lesser-min k (length row)) in
      record {
        value =
            value
            ∙ rw (sym long)
            (count_same (is_on (take first row)) (is_on row) (length (take first row))
            (λ i l. ap on (get_or-take first row i 0 (omega (arith, lesser-min k (length row))))));
        pixels = begun-none size;
      }

  -- the columns from c to e more, which is d
  pub written-more : {part new : List ℕ} {v c e d : ℕ} → Written row k n out c → c ≤ e → e ≤ length row → part ≡ take (e - c) (drop c out) → e ≡ d
      → v ≡ running (length row) k (is_on row) (c + length part) → new ≡ counted_part row k c (length part)
      → Written row k v (put_mid c (e - c) out new) d
  unfolding counted_part
  written-more {part} {new} {v} {c} {e} {d} w le most here there value made =
      let m = e - c in
      let q : c + m ≡ d = omega arith in
      let size : length part ≡ m = ap length here ∙ part_length out c m (omega (arith, w.pixels.size)) in
      let p : ℕ → Bool = λ j. ltb 0 (window_count (length row) k (c + j) (is_on row)) in
      let more = begun-part m new w.pixels (omega arith) (ap length made ∙ mask-length (length part) p ∙ size)
      (λ i g. ap (λ (u : List ℕ). get_or u i 0) made ∙ mask_at (length part) p i (omega arith) ∙ ap bit (window-some k (c + i) (is_on row) (length row))) in
      record { value = value ∙ ap (running (length row) k (is_on row)) (omega arith); pixels = rw q at more }

  -- at the end the row is
  pub written-all : {c : ℕ} → Written row k n out c → length row ≡ c → out ≡ dilated_row row k
  unfolding dilated_row mask_of
  written-all w e = begun-end w.pixels (omega arith)

-- the row that the line pass writes, where it reads row y of a mask
pub row_is : (mask : List ℕ) (h w k y : ℕ) → length mask ≡ h * w → y < h
    → dilated_row (take w (drop (y * w) mask)) k ≡ table (λ (x : ℕ). bit (in_window w k x (on_at mask w y))) 0 w
unfolding dilated_row in_window on_at is_on mask_of
row_is mask h w k y e l =
    let row = take w (drop (y * w) mask) in
    let long : length row ≡ w = part_length mask (y * w) w (omega (arith, row_in y h w l)) in
    ap (λ (m : ℕ). mask_of m (λ (x : ℕ). in_window m k x (is_on row))) long
    ∙ mask-same w (λ (x : ℕ). in_window w k x (is_on row)) (λ (x : ℕ). in_window w k x (on_at mask w y))
    (λ x g.
    some_same (λ (i : ℕ). is_on row i && leb (apart x i) k) (λ (i : ℕ). on_at mask w y i && leb (apart x i) k) w
    (λ i m. ap (λ (v : ℕ). on v && leb (apart x i) k) (part_at mask (y * w) w i m)))
