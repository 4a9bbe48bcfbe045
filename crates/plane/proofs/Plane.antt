-- Laws of planes: length, elements, when a list is a plane, and a plane filled row by row; for every element type.
-- Assumes nothing.
use mathlib.Core.Path.{◌≡◌, refl, sym, ap, ◌∙◌}
use mathlib.Core.Bool.{Bool, true, false}
use mathlib.Core.List.{List, ◌++◌, append_assoc}
use mathlib.Core.Logic.{⊎_elim}
use Prim.Native.Nat.{ℕ, zero, suc, ◌+◌, ◌*◌, ◌/◌, ◌%◌, ◌≤◌, ◌<◌}
use native.Mathlib.Nat.{zero-mul, mul-zero, suc-mul, add-mul, one-mul, mul-le-mul, mul-le-mul_right, add-zero, zero-add}
use native.Mathlib.Nat.{ne_of_lt, not-suc-le-zero, le_of_suc-le-suc, div-add-mod', div-lt_iff_lt-mul, mod-lt}
use native.Mathlib.Numerals.{add-one}
use native.Mathlib.Omega.{arith}
use lib.ListN.{length, get_or, take, drop, set, length-append, get_or-append}
use lib.Seq.{drop-drop, take_at, drop_at, get_or-append-add, get_or-set_same, get_or-set_other, get_or-take, get_or-drop, ext_get_or}
use mir.Syntax.{w64}
use mir.Val.{Fits}
use mir.Facts.{Fits-le, Fits-lit}
use borrow.Author.Count.{below_more}
use Rattle.std.specs.Int.{from_bool}
use Rattle.plane.specs.Plane.{apart, on, bit, table, rows_upto, plane_of}
use Rattle.plane.specs.steps.Sides.{longest_side}
use Rattle.std.proofs.lemmas.Bool.{cases_lt}

-- ---- indices

-- row y ends within the plane
pub row_in : (y h w : ℕ) → y < h → y * w + w ≤ h * w
row_in y h w a =
    let step : (y + 1) * w ≤ h * w = mul-le-mul_right w (omega arith) in
    omega (arith, rw (add-mul, one-mul) at step)

-- so pixel (y, x) does
pub pixel-in : (y x h w : ℕ) → y < h → x < w → y * w + x < h * w
pixel-in y x h w a b = let r = row_in y h w a in omega arith

-- every index of a plane is that of its row and column
pub row_of : (i h w : ℕ) → 0 < w → i < h * w → i / w < h
row_of i h w a b = (div-lt_iff_lt-mul {k = w} {x = i} {y = h} a).1 b

pub column-of : (i w : ℕ) → 0 < w → i % w < w
column-of i w a = mod-lt i a

pub index-of : (i w : ℕ) → i / w * w + i % w ≡ i
index-of i w = div-add-mod' i w

-- the largest plane's area fits a usize
pub area-most : {h w : ℕ} → h ≤ longest_side → w ≤ longest_side → h * w ≤ 4294967296
area-most a b = mul-le-mul a b

pub area-fits : {h w : ℕ} → h ≤ longest_side → w ≤ longest_side → Fits w64 (h * w)
area-fits a b = Fits-le (mul-le-mul a b) (Fits-lit tt)

-- rows and columns are as far apart from either side
pub apart-back : (a b : ℕ) → apart a b ≡ apart b a
unfolding apart
apart-back a b = omega arith

-- a test written as a byte is on where it holds
pub on_bit : (t : Bool) → on (bit t) ≡ t
unfolding on bit
on_bit true = refl
on_bit false = refl

-- what `u8::from` writes for a truth
pub from_bool-bit : (t : Bool) → from_bool t ≡ bit t
unfolding bit
from_bool-bit true = refl
from_bool-bit false = refl

-- such a byte is at most 1
pub bit-most : (t : Bool) → bit t ≤ 1
unfolding bit
bit-most true = omega arith
bit-most false = omega arith

-- ---- tables

module _ {A : Type 0} (f : ℕ → A) where
  pub table-length : (k n : ℕ) → length (table f k n) ≡ n
  unfolding table
  table-length k zero = refl
  table-length k (suc n) = ap suc (table-length (suc k) n)

  table-from : (k n i : ℕ) (d : A) → i < n → get_or (table f k n) i d ≡ f (k + i)
  unfolding table
  table-from k zero i d h = absurd (not-suc-le-zero h)
  table-from k (suc n) zero d h = ap f (sym (add-zero k))
  table-from k (suc n) (suc i) d h = table-from (suc k) n i d (le_of_suc-le-suc h) ∙ ap f (omega arith)

  pub table_at : (n i : ℕ) (d : A) → i < n → get_or (table f 0 n) i d ≡ f i
  table_at n i d h = table-from 0 n i d h ∙ ap f (zero-add i)

  -- a list is a table where its elements are
  pub table_is : (n : ℕ) (out : List A) (d : A) → length out ≡ n → ((k : ℕ) → k < n → get_or out k d ≡ f k) → out ≡ table f 0 n
  table_is n out d e h =
      ext_get_or d out (table f 0 n) (e ∙ sym (table-length 0 n)) (λ k l. h k (omega arith) ∙ sym (table_at n k d (omega arith)))

  -- a store at i: one element more is right
  pub filled : (out : List A) (i : ℕ) (v d : A) → i < length out → ((k : ℕ) → k < i → get_or out k d ≡ f k) → v ≡ f i
      → (k : ℕ) → k < i + 1 → get_or (set out i v) k d ≡ f k
  filled out i v d l h e =
      let right : ℕ → Type 0 = λ (k : ℕ). get_or (set out i v) k d ≡ f k in
      below_more right i (λ k g. get_or-set_other out i k v d (ne_of_lt g) ∙ h k g) (get_or-set_same out i v d l ∙ e)

-- tables of equal elements are equal
pub table_same : {A : Type 0} (f g : ℕ → A) (n : ℕ) (d : A) → ((k : ℕ) → k < n → f k ≡ g k) → table f 0 n ≡ table g 0 n
table_same f g n d h = table_is g n (table f 0 n) d (table-length f 0 n) (λ k l. table_at f n k d l ∙ h k l)

-- ---- rows one after the other

module _ {A : Type 0} (g : ℕ → List A) (w : ℕ) (keeps : (y : ℕ) → length (g y) ≡ w) where
  pub rows-length : (n : ℕ) → length (rows_upto n g) ≡ n * w
  unfolding rows_upto
  rows-length zero = sym (zero-mul w)
  rows-length (suc n) = length-append (rows_upto n g) (g n) ∙ omega (arith, rows-length n, keeps n, suc-mul n w)

  -- the element at row y and column x
  pub rows_at : (n y x : ℕ) (d : A) → y < n → x < w → get_or (rows_upto n g) (y * w + x) d ≡ get_or (g y) x d
  unfolding rows_upto
  rows_at zero y x d a b = absurd (not-suc-le-zero a)
  rows_at (suc n) y x d a b =
      let long = rows-length n in
      ⊎_elim
      (λ (h : y < n).
      let r = row_in y n w h in
      get_or-append (rows_upto n g) (g n) d (y * w + x) (omega arith) ∙ rows_at n y x d h b)
      (λ (h : n ≤ y).
      let e : y ≡ n = omega arith in
      let i : y * w + x ≡ length (rows_upto n g) + x = ap (λ (k : ℕ). k * w + x) e ∙ ap (λ (k : ℕ). k + x) (sym long) in
      ap (λ (k : ℕ). get_or (rows_upto n g ++ g n) k d) i ∙ get_or-append-add (rows_upto n g) (g n) x d ∙ ap (λ (k : ℕ). get_or (g k) x d) (sym e))
      (cases_lt y n)

  pub rows_more : (y : ℕ) → rows_upto (y + 1) g ≡ rows_upto y g ++ g y
  rows_more y = rw (add-one y) (unfold rows_upto in refl)

  -- the rows done and then the old list, with row y put in its place: one row more is done
  pub put-row : (y k : ℕ) (old now row : List A) → now ≡ rows_upto y g ++ drop (y * w) old → k ≡ w → row ≡ g y
      → take (y * w) now ++ (row ++ drop k (drop (y * w) now)) ≡ rows_upto (y + 1) g ++ drop ((y + 1) * w) old
  put-row y k old now row e q r =
      let done = rows_upto y g in
      let front : take (y * w) now ≡ done = rw e (take_at done (drop (y * w) old) (y * w) (rows-length y)) in
      let back : drop k (drop (y * w) now) ≡ drop ((y + 1) * w) old =
      ap (λ (t : List A). drop k (drop (y * w) t)) e
      ∙ ap (drop k) (drop_at done (drop (y * w) old) (y * w) (rows-length y))
      ∙ drop-drop k (y * w) old
      ∙ ap (λ (m : ℕ). drop m old) (ap (λ (m : ℕ). y * w + m) q ∙ sym (add-mul y 1 w ∙ ap (λ (m : ℕ). y * w + m) (one-mul w))) in
      ap (λ (t : List A). t ++ (row ++ drop k (drop (y * w) now))) front
      ∙ ap (λ (t : List A). done ++ (row ++ t)) back
      ∙ ap (λ (t : List A). done ++ (t ++ drop ((y + 1) * w) old)) r
      ∙ sym (append_assoc done (g y) (drop ((y + 1) * w) old))
      ∙ ap (λ (t : List A). t ++ drop ((y + 1) * w) old) (sym (rows_more y))

-- rows that are equal make equal planes
pub rows_same : {A : Type 0} (f g : ℕ → List A) (n : ℕ) → ((y : ℕ) → y < n → f y ≡ g y) → rows_upto n f ≡ rows_upto n g
unfolding rows_upto
rows_same f g zero h = refl
rows_same {A} f g (suc n) h =
    ap (λ (t : List A). t ++ f n) (rows_same f g n (λ y l. h y (omega arith))) ∙ ap (λ (t : List A). rows_upto n g ++ t) (h n (omega arith))

-- ---- planes

module _ {A : Type 0} (h w : ℕ) (f : ℕ → ℕ → A) where
  row-long : (y : ℕ) → length (table (f y) 0 w) ≡ w
  row-long y = table-length (f y) 0 w

  pub plane-length : length (plane_of h w f) ≡ h * w
  unfolding plane_of
  plane-length = rows-length (λ (y : ℕ). table (f y) 0 w) w row-long h

  -- the element at row y and column x
  pub plane-at : (y x : ℕ) (d : A) → y < h → x < w → get_or (plane_of h w f) (y * w + x) d ≡ f y x
  unfolding plane_of
  plane-at y x d a b = rows_at (λ (k : ℕ). table (f k) 0 w) w row-long h y x d a b ∙ table_at (f y) w x d b

  -- the element at an index
  pub plane-index : (i : ℕ) (d : A) → 0 < w → i < h * w → get_or (plane_of h w f) i d ≡ f (i / w) (i % w)
  plane-index i d p l =
      ap (λ (k : ℕ). get_or (plane_of h w f) k d) (sym (index-of i w)) ∙ plane-at (i / w) (i % w) d (row_of i h w p l) (column-of i w p)

  -- a list is the plane where its elements are, by row and column
  pub plane-is : (out : List A) (d : A) → length out ≡ h * w → ((y x : ℕ) → y < h → x < w → get_or out (y * w + x) d ≡ f y x)
      → out ≡ plane_of h w f
  plane-is out d e p =
      ext_get_or d out (plane_of h w f) (e ∙ sym plane-length)
      (λ i l.
      ⊎_elim {C = get_or out i d ≡ get_or (plane_of h w f) i d}
      (λ (z : 0 < w).
      let m : i < h * w = omega arith in
      let q = p (i / w) (i % w) (row_of i h w z m) (column-of i w z) in
      ap (λ (k : ℕ). get_or out k d) (sym (index-of i w)) ∙ q ∙ sym (plane-index i d z m))
      (λ (z : w ≤ 0).
      let q : w ≡ 0 = omega arith in
      let r : h * w ≡ 0 = ap (λ (k : ℕ). h * k) q ∙ mul-zero h in
      absurd (omega arith))
      (cases_lt 0 w))

-- planes with equal elements are equal
pub plane-same : {A : Type 0} (h w : ℕ) (f g : ℕ → ℕ → A) (d : A) → ((y x : ℕ) → y < h → x < w → f y x ≡ g y x)
    → plane_of h w f ≡ plane_of h w g
plane-same h w f g d p = plane-is h w g (plane_of h w f) d (plane-length h w f) (λ y x a b. plane-at h w f y x d a b ∙ p y x a b)

-- the element of row y's part of a plane
pub part_at : {A : Type 0} (plane : List A) (y w x : ℕ) (d : A) → x < w → get_or (take w (drop (y * w) plane)) x d ≡ get_or plane (y * w + x) d
part_at plane y w x d a = get_or-take w (drop (y * w) plane) x d a ∙ get_or-drop (y * w) plane x d
