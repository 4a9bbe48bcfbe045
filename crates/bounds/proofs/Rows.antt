-- Laws of a mask's rows: row y as a part of the mask, and the edges of the first y rows, and of one row more.
-- Assumes nothing.
use mathlib.Core.Path.{◌≡◌, refl, sym, ap, ◌∙◌}
use mathlib.Core.Bool.{Bool, true, false, cond, ◌||◌}
use mathlib.Core.List.{List}
use mathlib.Core.Logic.{⊎_elim}
use Prim.Native.Nat.{ℕ, suc, ◌+◌, ◌*◌, ◌-◌, ◌≤◌, ◌<◌}
use native.Mathlib.Numerals.{add-one}
use native.Mathlib.Omega.{arith}
use lib.ListN.{length, get_or, take, drop, length-take, length-drop}
use lib.Seq.{get_or-take, get_or-drop}
use lib.Dec.{ltb}
use borrow.Author.Tests.{lt-ltb, le-ltb}
use Rattle.std.proofs.Common.{Option, Some, None, unwrap_or, MatchOption}
use Rattle.std.specs.List.{position, position_or_len}
use Rattle.std.proofs.lemmas.List.Sums.{passes_at_first, fails_before_first}
use Rattle.plane.specs.Plane.{on, on_at}
use Rattle.plane.specs.Search.{some_below, first_below, last_below}
use Rattle.plane.specs.Mask.{is_on}
use Rattle.plane.specs.Box.{row_has, column_has}
use Rattle.plane.proofs.Search.{some_same, some_is, some-found, none_is, none_found}
use Rattle.std.proofs.lemmas.Bool.{cases_Bool, cases_lt}
use Rattle.plane.proofs.Plane.{part_at}
use Rattle.std.specs.Bool.{then_some}
use Rattle.plane.proofs.Bounds.{first_below_lem, first_is, first-none, first-most, first-or, first_same, none_before}
use Rattle.plane.proofs.Bounds.{Last, last-is, last_none, last-most, last_or, last-same}

-- the first place of a list that passes
pub first_position : (p : ℕ → Bool) (xs : List ℕ)
    → (let n = length xs in
    let q : ℕ → Bool = λ k. p (get_or xs k 0) in
    position p xs ≡ then_some (some_below n q) (first_below n q))
first_position p xs =
    let i = position_or_len p xs in
    let n = length xs in
    let q : ℕ → Bool = λ k. p (get_or xs k 0) in
    ⊎_elim {C = cond (ltb i n) (Some i) None ≡ then_some (some_below n q) (first_below n q)}
    (λ (l : i < n).
    let here = passes_at_first p xs 0 l in
    rw (lt-ltb i n l, some_is q n i l here, first_is q n i (record { inside = l; holds = here; before = λ k m. fails_before_first p xs k 0 m })) refl)
    (λ (l : n ≤ i). rw (le-ltb i n l, none_is q n (λ k m. fails_before_first p xs k 0 (omega arith))) refl)
    (cases_lt i n)

-- an Option that tells the last number below n of which p holds
pub last_told : (p : ℕ → Bool) (n : ℕ) (r : Option ℕ) → MatchOption r ((k : ℕ) → k < n → p k ≡ false) (Last n p)
    → r ≡ then_some (some_below n p) (last_below n p)
last_told p n None none = rw (none_is p n none) refl
last_told p n (Some i) found = rw (some_is p n i found.inside found.holds, last-is p n i found) refl

-- where none is told, the first number is n, and the last one 0
first-or-n : (p : ℕ → Bool) (n : ℕ) {o : Option ℕ} → o ≡ then_some (some_below n p) (first_below n p) → unwrap_or o n ≡ first_below n p
first-or-n p n {o} told =
    ⊎_elim {C = unwrap_or o n ≡ first_below n p}
    (λ (a : some_below n p ≡ true). rw (told, a) refl)
    (λ (a : some_below n p ≡ false). rw (told, a) (sym (first-none p n (none_found p n a))))
    (cases_Bool (some_below n p))

pub last-or-zero : (p : ℕ → Bool) (n : ℕ) {o : Option ℕ} → o ≡ then_some (some_below n p) (last_below n p) → unwrap_or o 0 ≡ last_below n p
last-or-zero p n {o} told =
    ⊎_elim {C = unwrap_or o 0 ≡ last_below n p}
    (λ (a : some_below n p ≡ true). rw (told, a) refl)
    (λ (a : some_below n p ≡ false). rw (told, a) (sym (last_none p n (none_found p n a))))
    (cases_Bool (some_below n p))

-- ---- a list is row y of a mask

pub record Row (mask : List ℕ) (w y : ℕ) (row : List ℕ) : Type 0 where
  pub long : length row ≡ w
  pub pixel : (x : ℕ) → x < w → is_on row x ≡ on_at mask w y x

-- the part of the mask that `Mask::row` hands out is
pub row-part : {mask row : List ℕ} {w y : ℕ} → row ≡ take w (drop (y * w) mask) → length row ≡ w → Row mask w y row
unfolding is_on on_at
row-part {mask} {row} {w} {y} here long =
    record { long = long; pixel = λ x l. ap on (ap (λ (u : List ℕ). get_or u x 0) here ∙ part_at mask y w x 0 l) }

module _ {mask : List ℕ} {w y : ℕ} {row : List ℕ} (r : Row mask w y row) where
  -- whether a pixel of it is on
  pub row-some : some_below (length row) (is_on row) ≡ row_has mask w y
  unfolding row_has
  row-some = rw r.long (some_same _ _ w r.pixel)

  -- the first pixel that is on, of the first x; the last, from pixel x on
  pub row_first : (x : ℕ) → x ≤ w → {o : Option ℕ}
      → (let line = take x row in o ≡ then_some (some_below (length line) (is_on line)) (first_below (length line) (is_on line)))
      → unwrap_or o x ≡ first_below x (on_at mask w y)
  unfolding is_on
  row_first x m told =
      let long = r.long in
      let e : length (take x row) ≡ x = simp length-take (omega arith) in
      first-or-n _ _ (rw e at told) ∙ first_same _ _ x (λ i l. ap on (get_or-take x row i 0 l) ∙ r.pixel i (omega arith))

  pub row_last : (x n : ℕ) → x ≤ w → n ≡ length row - x → {o : Option ℕ}
      → (let line = take n (drop x row) in o ≡ then_some (some_below (length line) (is_on line)) (last_below (length line) (is_on line)))
      → unwrap_or o 0 ≡ last_below (w - x) (λ (i : ℕ). on_at mask w y (x + i))
  unfolding is_on
  row_last x n m q told =
      let long = r.long in
      let e : length (take n (drop x row)) ≡ w - x = simp (length-take, length-drop) (omega arith) in
      last-or-zero _ _ (rw e at told)
      ∙ last-same _ _ (w - x)
      (λ i l. ap on (get_or-take n (drop x row) i 0 (omega arith) ∙ get_or-drop x row i 0) ∙ r.pixel (x + i) (omega arith))

-- ---- the edges of the first y rows: the first row, and the first and the last column, that have an on-pixel

pub record Edges (mask : List ℕ) (w y y0 x0 x1 : ℕ) : Type 0 where
  pub top : y0 ≡ first_below y (row_has mask w)
  pub left : x0 ≡ first_below w (column_has mask y w)
  pub right : x1 ≡ last_below w (column_has mask y w)

-- they lie within the row
pub left_in : {mask : List ℕ} {w y y0 x0 x1 : ℕ} → Edges mask w y y0 x0 x1 → x0 ≤ w
left_in {mask} {w} {y} e = omega (arith, e.left, first-most (column_has mask y w) w)

pub right-in : {mask : List ℕ} {w y y0 x0 x1 : ℕ} → Edges mask w y y0 x0 x1 → x1 ≤ w
right-in {mask} {w} {y} e = omega (arith, e.right, last-most (column_has mask y w) w)

-- of no rows
pub no_edges : (mask : List ℕ) (w : ℕ) → Edges mask w 0 0 w 0
unfolding column_has some_below first_below
no_edges mask w =
    record { top = refl; left = sym (first-none _ w (λ k l. refl)); right = sym (last_none _ w (λ k l. refl)) }

-- where a number of which p holds is below n + 1, the first one below n + 1 is that below n
first-kept : (p : ℕ → Bool) (n : ℕ) → some_below (n + 1) p ≡ true → first_below n p ≡ first_below (n + 1) p
unfolding some_below first_below
first-kept p n e = rw (add-one n) (go (rw (add-one n) at e))
  where
    go : some_below (suc n) p ≡ true → first_below n p ≡ first_below (suc n) p
    go d =
        ⊎_elim {C = first_below n p ≡ first_below (suc n) p}
        (λ (a : some_below n p ≡ true). rw a)
        (λ (a : some_below n p ≡ false). (let b : p n ≡ true = rw a at d in rw (a, b) (first-none p n (none_found p n a))))
        (cases_Bool (some_below n p))

module _ (mask : List ℕ) (w y : ℕ) where
  column-or : (x : ℕ) → column_has mask (y + 1) w x ≡ column_has mask y w x || on_at mask w y x
  unfolding column_has some_below
  column-or x = rw (add-one y)

  -- a row more: the first column is searched in front of the one found so far, the last from that on
  left-more : first_below (first_below w (column_has mask y w)) (on_at mask w y) ≡ first_below w (column_has mask (y + 1) w)
  left-more = sym (first_same _ _ w (λ x l. column-or x) ∙ first-or (column_has mask y w) (on_at mask w y) w)

  right-more : (x : ℕ) → x ≡ last_below w (column_has mask y w)
      → x + last_below (w - x) (λ (i : ℕ). on_at mask w y (x + i)) ≡ last_below w (column_has mask (y + 1) w)
  right-more x e = rw e (sym (last-same _ _ w (λ i l. column-or i) ∙ last_or (column_has mask y w) (on_at mask w y) w))

  -- where no column is found, no row is
  top-none : w ≡ first_below w (column_has mask y w) → y ≡ first_below y (row_has mask w)
  unfolding row_has column_has
  top-none e =
      sym (first-none (row_has mask w) y (λ j m. none_is (on_at mask w j) w
      (λ x l. none_found (λ (k : ℕ). on_at mask w k x) y (none_before (column_has mask y w) w x (omega arith)) j m)))

  -- where a column is found, a row is
  top-some : (first_below w (column_has mask y w) ≡ w → ⊥) → some_below y (row_has mask w) ≡ true
  unfolding row_has column_has
  top-some some =
      ⊎_elim {C = some_below y (row_has mask w) ≡ true}
      (λ (a : some_below w (column_has mask y w) ≡ true).
      let f = first_below_lem (column_has mask y w) w a in
      let z = some-found _ y f.holds in
      some_is (row_has mask w) y z.0 z.1 (some_is (on_at mask w z.0) w _ f.inside z.2))
      (λ (a : some_below w (column_has mask y w) ≡ false). absurd (some (first-none _ w (none_found _ w a))))
      (cases_Bool (some_below w (column_has mask y w)))

-- a row more; its number is the first row's as long as no column is found
module _ {mask : List ℕ} {w y y0 x0 x1 a b : ℕ} (e : Edges mask w y y0 x0 x1) (p : a ≡ first_below x0 (on_at mask w y))
    (q : b ≡ last_below (w - x1) (λ (i : ℕ). on_at mask w y (x1 + i))) where
  left_is : a ≡ first_below w (column_has mask (y + 1) w)
  left_is = p ∙ ap (λ (k : ℕ). first_below k (on_at mask w y)) e.left ∙ left-more mask w y

  edges_more : {t : ℕ} → t ≡ first_below (y + 1) (row_has mask w) → Edges mask w (y + 1) t a (x1 + b)
  edges_more top = record { top = top; left = left_is; right = ap (λ (k : ℕ). x1 + k) q ∙ right-more mask w y x1 e.right }

  pub edges_none : a ≡ w → Edges mask w (y + 1) (y + 1) a (x1 + b)
  edges_none n = edges_more (top-none mask w (y + 1) (sym n ∙ left_is))

  pub edges_some : (a ≡ w → ⊥) → Edges mask w (y + 1) y0 a (x1 + b)
  edges_some n = edges_more (e.top ∙ first-kept (row_has mask w) y (top-some mask w (y + 1) (λ z. n (left_is ∙ z))))
