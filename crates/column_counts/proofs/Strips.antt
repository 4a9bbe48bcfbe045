-- Laws of the pass down the columns: the counts of a strip, and the plane that is written.
-- Assumes nothing.
use Rattle.std.proofs.Common.{◌≡◌, ℕ, ◌+◌, ◌-◌, ◌*◌, ◌<◌, ◌≤◌, Bool, Option, Some, None, List, length, get_or, take, sym, ap, ◌∙◌, ⊎_elim, arith}
use borrow.Rule.Slice.PartMut.{put_mid}
use Rattle.plane.specs.Plane.{on, bit, on_at, table}
use Rattle.plane.specs.Mask.{is_on, mask_of}
use Rattle.plane.specs.steps.Sides.{longest_side}
use Rattle.std.proofs.lemmas.Bool.{cases_lt}
use Rattle.plane.proofs.Plane.{row_in, table-length, table_at, table_is, plane-is}
use Rattle.plane.proofs.Mask.{mask_at}
use Rattle.counts.specs.Running.{window_count, enters, leaves}
use Rattle.counts.specs.steps.Parts.{step_by, full_byte, rest_of, changed, moved_line}
use Rattle.column_counts.specs.steps.Columns.{on_down, strip_row, column_byte, dilated_columns, balanced_low, balanced_rest}
use Rattle.column_counts.specs.steps.Columns.{Balanceable, Counted}
use Rattle.column_counts.specs.declared.columns.Strip.{Strip}
use Rattle.column_counts.specs.steps.Strip.{on_strip, moves, MovedRow, Followed, Swept}
use Rattle.counts.specs.declared.Change.{Change}
use Rattle.counts.specs.declared.Change.TheVariants as change_is
use Rattle.std.specs.Bool.{then_some}
use Rattle.std.specs.Option.{SomeIff}
use Rattle.std.proofs.Common.{true, false, ◌&&◌, ltb, refl, lt-ltb, le-ltb, replicate}
use Rattle.std.proofs.Common.{rules}
use Rattle.std.proofs.lemmas.List.{places, get_or-replicate, get_or-take}
use Rattle.counts.proofs.Counting.{window-some}
use Rattle.counts.proofs.Parts.{not-moved, split-new, split-later, split-enter, split-leave, split-test}
use Rattle.counts.proofs.Put.{part_at, put-length, put_front, put-part, put_back}

-- ---- rows that enter and leave

-- n columns of row j from column c on end within the plane
pub strip-in : (j c n h w : ℕ) → j < h → c + n ≤ w → j * w + c + n ≤ h * w
strip-in j c n h w a b = omega (arith, row_in j h w a)

-- the part of row j from column c on has the pixels of these columns
pub strip-pixel : (plane : List ℕ) (w c n j x : ℕ) → x < n → is_on (strip_row plane w c n j) x ≡ on_down plane w (c + x) j
unfolding is_on on_at
strip-pixel plane w c n j x l =
    let q : j * w + c + x ≡ j * w + (c + x) = omega arith in
    ap on (part_at plane (j * w + c) n x l ∙ ap (λ (y : ℕ). get_or plane y 0) q)

-- a line of bytes that is moved: its length, and each byte
pub moved_length : (line : List ℕ) (change : ℕ) (low : List ℕ) → length (moved_line line change low) ≡ length low
unfolding moved_line
moved_length line change low = table-length (λ (x : ℕ). changed (get_or low x 0) (is_on line x) change) 0 (length low)

pub moved_at : (line : List ℕ) (change : ℕ) (low : List ℕ) (x : ℕ) → x < length low
    → get_or (moved_line line change low) x 0 ≡ changed (get_or low x 0) (is_on line x) change
unfolding moved_line
moved_at line change low x l = table_at (λ (y : ℕ). changed (get_or low y 0) (is_on line y) change) (length low) x 0 l

-- ---- rows of a strip

module _ (s : Strip) where
  module _ {j : Option ℕ} (change : Change) {low : List ℕ} where
    -- a row that is there moves the bytes, and one that is not leaves them as they are
    pub row-moved : {i : ℕ} {row low' : List ℕ} → j ≡ Some i → length low ≡ s.n → row ≡ strip_row s.plane.now s.size.w s.c s.n i
        → low' ≡ moved_line row (step_by change) low → MovedRow s j change low low'
    row-moved {i} {row} q size here made =
        rw q
        (record {
          each =
              λ x l.
              ap (λ (u : List ℕ). get_or u x 0) made
              ∙ moved_at row (step_by change) low x l
              ∙ ap (λ (t : Bool). changed (get_or low x 0) t (step_by change))
              (ap (λ (u : List ℕ). is_on u x) here ∙ strip-pixel s.plane.now s.size.w s.c s.n i x (omega arith));
        })

    pub none-moved : j ≡ None → ((x : ℕ) → get_or low x 0 < 256) → MovedRow s j change low low
    none-moved q small = rw q (record { each = λ x l. sym (not-moved (get_or low x 0) (step_by change) (small x)) })

  module _ (y x : ℕ) where
    -- the row that enters at the step to row y, and the one that leaves
    pub moves-enter : {j : Option ℕ} → j ≡ then_some (ltb (y + s.k) s.size.h) (y + s.k) → moves s j x ≡ enters s.size.h s.k (on_strip s x) y
    unfolding enters
    moves-enter q = rw q (go (ltb (y + s.k) s.size.h))
      where
        go : (t : Bool) → moves s (then_some t (y + s.k)) x ≡ t && on_strip s x (y + s.k)
        go true = refl
        go false = refl

    pub moves-leave : (j : Option ℕ) → SomeIff j (s.k + 1 ≤ y) (y - (s.k + 1)) → moves s j x ≡ leaves s.k (on_strip s x) y
    unfolding leaves
    moves-leave None none =
        let l : y ≤ s.k = ⊎_elim (λ (a : s.k < y). absurd (none (omega arith))) (λ (a : y ≤ s.k). a) (cases_lt s.k y) in
        rw (le-ltb s.k y l)
    moves-leave (Some j) some = rw (lt-ltb s.k y (omega (arith, some.0)), some.1)

  -- both of them have moved the bytes
  pub rows-followed : (y : ℕ) {j i : Option ℕ} {low mid low' out : List ℕ} → j ≡ then_some (ltb (y + s.k) s.size.h) (y + s.k)
      → SomeIff i (s.k + 1 ≤ y) (y - (s.k + 1)) → length mid ≡ length low → MovedRow s j change_is.Enters low mid
      → MovedRow s i change_is.Leaves mid low' → out ≡ mask_of (length low) (is_on low') → Followed s y low low' out
  rows-followed y {j} {i} q r long a b made = record {
    each = λ x l. b.each x (omega arith) ∙ rw (a.each x l, moves-enter y x q, moves-leave y x i r);
    tested = made;
  }

-- ---- lines that are moved twice

-- each byte of a line after a line has entered and one has left, in turn
abbrev pub twice_moved : List ℕ → List ℕ → List ℕ → ℕ → ℕ
twice_moved enter leave low x = changed (changed (get_or low x 0) (is_on enter x) 1) (is_on leave x) 255

pub twice-moved : (enter leave low : List ℕ) → moved_line leave 255 (moved_line enter 1 low) ≡ table (twice_moved enter leave low) 0 (length low)
twice-moved enter leave low =
    let one = moved_line enter 1 low in
    let size = moved_length enter 1 low in
    table_is _ (length low) (moved_line leave 255 one) 0 (moved_length leave 255 one ∙ size)
    (λ i g. moved_at leave 255 one i (omega arith) ∙ rw (moved_at enter 1 low i g))

-- ---- the counts of a strip

module _ {value : ℕ → ℕ} {t : ℕ} {low rest : List ℕ} (n : Counted value t low rest) where
  pub counted-later : {u : ℕ} → t ≤ u → Counted value u low rest
  counted-later {u} l = record { size = n.size; each = λ x g. split-later (n.each x g) u l }

  -- the same counts under another name
  pub counted-as : {other : ℕ → ℕ} → ((x : ℕ) → x < length low → value x ≡ other x) → Counted other t low rest
  counted-as e = record { size = n.size; each = λ x g. rw (sym (e x g)) (n.each x g) }

  -- where no count is above the longest side, they can be balanced
  pub counted-small : ((x : ℕ) → x < length low → value x ≤ longest_side) → Balanceable low rest
  counted-small f = record { size = n.size; small = λ x l. omega (arith, (n.each x l).sum, f x l) }

  -- balanced
  pub counted-new : {low' rest' : List ℕ} → low' ≡ balanced_low low rest → rest' ≡ balanced_rest low rest → Counted value 0 low' rest'
  unfolding balanced_low balanced_rest
  counted-new {low'} {rest'} p q =
      let f : ℕ → ℕ = λ (x : ℕ). full_byte (get_or low x 0 + get_or rest x 0) in
      let g : ℕ → ℕ = λ (x : ℕ). rest_of (get_or low x 0 + get_or rest x 0) in
      let a : length low' ≡ length low = ap length p ∙ table-length f 0 (length low) in
      record {
        size = ap length q ∙ table-length g 0 (length low) ∙ sym a;
        each =
            λ x l.
            let i : x < length low = omega arith in
            let u : get_or low' x 0 ≡ f x = ap (λ (v : List ℕ). get_or v x 0) p ∙ table_at f (length low) x 0 i in
            let v : get_or rest' x 0 ≡ g x = ap (λ (v : List ℕ). get_or v x 0) q ∙ table_at g (length low) x 0 i in
            rw (u, v, (n.each x i).sum) (split-new (value x));
      }

  -- a row enters,
  pub counted-enter : (moves : ℕ → Bool) (low' : List ℕ) → length low' ≡ length low → t ≤ 126
      → ((x : ℕ) → x < length low → get_or low' x 0 ≡ changed (get_or low x 0) (moves x) 1)
      → Counted (λ (x : ℕ). value x + bit (moves x)) (t + 1) low' rest
  counted-enter moves low' size few e =
      record {
        size = n.size ∙ sym size;
        each = λ x l. (let i : x < length low = omega arith in rw (e x i) (split-enter (n.each x i) (moves x) few));
      }

  -- or one enters and one leaves
  pub counted_step : (comes goes : ℕ → Bool) (low' : List ℕ) → length low' ≡ length low → t ≤ 125
      → ((x : ℕ) → x < length low → get_or low' x 0 ≡ changed (changed (get_or low x 0) (comes x) 1) (goes x) 255)
      → ((x : ℕ) → x < length low → bit (goes x) ≤ value x + bit (comes x))
      → Counted (λ (x : ℕ). value x + bit (comes x) - bit (goes x)) (t + 1 + 1) low' rest
  counted_step comes goes low' size few e held =
      record {
        size = n.size ∙ sym size;
        each =
            λ x l.
            let i : x < length low = omega arith in
            rw (e x i) (split-leave (split-enter (n.each x i) (comes x) (omega arith)) (goes x) (omega arith) (held x i));
      }

-- the bytes tell whether the window of row y has an on-pixel
pub column-tested : (plane : List ℕ) (h w k c y : ℕ) {low rest : List ℕ} {t : ℕ}
    → Counted (λ (x : ℕ). window_count h k y (on_down plane w (c + x))) t low rest → t ≤ 127 → (x : ℕ) → x < length low
    → get_or (mask_of (length low) (is_on low)) x 0 ≡ column_byte plane h w k y (c + x)
unfolding is_on
column-tested plane h w k c y {low} n l x g =
    mask_at (length low) (is_on low) x g ∙ ap bit (split-test (n.each x g) l ∙ window-some k y (on_down plane w (c + x)) h)

-- counts of 0 for n columns
pub zeros-long : (n : ℕ) → n ≤ 4096 → length (take n (replicate {A = ℕ} 4096 0)) ≡ n
zeros-long n l = search (rules, places)

pub zeros-counted : (n : ℕ) → n ≤ 4096 → Counted (λ (x : ℕ). 0) 0 (take n (replicate 4096 0)) (take n (replicate 4096 0))
zeros-counted n l =
    let long = zeros-long n l in
    record {
      size = refl;
      each =
          λ x g.
          let z : get_or (take n (replicate {A = ℕ} 4096 0)) x 0 ≡ 0 =
          get_or-take n _ x 0 (omega arith) ∙ get_or-replicate 4096 x 0 0 (omega arith) in
          rw z (split-new 0);
    }

-- ---- the plane that is written, row by row of a strip

-- row y of the strip is put into its place
module _ {plane new : List ℕ} {h w k c n y : ℕ} (t : Swept plane h w k c (c + n) y new) (inside : c + n ≤ w) (low : y < h) (row : List ℕ)
    (long : length row ≡ n) (each : (x : ℕ) → x < n → get_or row x 0 ≡ column_byte plane h w k y (c + x)) where
  abbrev s : ℕ
  s = y * w + c

  abbrev m : ℕ
  m = s + n - s

  abbrev put : List ℕ
  put = put_mid s m new row

  fits : s + m ≤ length new
  fits = omega (arith, strip-in y c n h w low inside, t.size)

  fill : length row ≡ m
  fill = omega arith

  -- elsewhere the plane is as it was
  elsewhere : (j x : ℕ) → x < w → (j ≡ y → x < c) → get_or put (j * w + x) 0 ≡ get_or new (j * w + x) 0
  elsewhere j x l d =
      ⊎_elim {C = get_or put (j * w + x) 0 ≡ get_or new (j * w + x) 0}
      (λ (a : y < j). (let r = row_in y j w a in put_back s m new row fits fill (j * w + x) (omega arith)))
      (λ (a : j ≤ y).
      put_front s m new row fits fill (j * w + x)
      (⊎_elim {C = j * w + x < s}
      (λ (b : j < y). (let r = row_in j y w b in omega arith))
      (λ (b : y ≤ j). (let e : j ≡ y = omega arith in let g = d e in rw e (omega arith)))
      (cases_lt j y)))
      (cases_lt y j)

  pub row-swept : Swept plane h w k c (c + n) (y + 1) put
  row-swept = record {
    size = put-length s m new row fits fill ∙ t.size;
    before = λ j x l g. elsewhere j x (omega arith) (λ e. g) ∙ t.before j x l g;
    done = λ j x l g. done j x (omega arith) g;
  }
    where
      done : (j x : ℕ) → j ≤ y → x < c + n → get_or put (j * w + x) 0 ≡ column_byte plane h w k j x
      done j x l g =
          ⊎_elim {C = get_or put (j * w + x) 0 ≡ column_byte plane h w k j x}
          (λ (a : x < c). elsewhere j x (omega arith) (λ e. a) ∙ t.before j x (omega arith) a)
          (λ (a : c ≤ x).
          ⊎_elim {C = get_or put (j * w + x) 0 ≡ column_byte plane h w k j x}
          (λ (b : j < y). elsewhere j x (omega arith) (λ e. absurd (omega arith)) ∙ t.done j x b g)
          (λ (b : y ≤ j).
          let e : j ≡ y = omega arith in
          let i : c + (x - c) ≡ x = omega arith in
          let q : s + (x - c) ≡ y * w + x = omega arith in
          let z = put-part s m new row fits fill (x - c) (omega arith) ∙ each (x - c) (omega arith) in
          rw e (rw (q, i) at z))
          (cases_lt j y))
          (cases_lt x c)

-- a strip is written, so the columns to its end are
pub strip-swept : {plane new : List ℕ} {h w k c d e : ℕ} → Swept plane h w k c d h new → d ≡ e → Swept plane h w k e e 0 new
strip-swept {e = e} t q = record {
  size = t.size;
  before = λ y x l m. t.done y x l (omega arith);
  done = λ y x l m. absurd (omega arith);
}

pub all-swept : {plane new : List ℕ} {h w k c : ℕ} → Swept plane h w k c c 0 new → w ≤ c → new ≡ dilated_columns plane h w k
unfolding dilated_columns
all-swept {plane} {new} {h} {w} {k} t l =
    plane-is h w (λ (y x : ℕ). column_byte plane h w k y x) new 0 t.size (λ y x a b. t.before y x a (omega arith))
