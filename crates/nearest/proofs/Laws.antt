-- Laws of nearest: what its answer is, and that nothing else is; one step from it; distances.
-- Assumes nothing.
use mathlib.Core.Path.{◌≡◌, refl, sym, ap, ◌∙◌, subst}
use mathlib.Core.Bool.{true, false}
use mathlib.Core.List.{List}
use mathlib.Core.Option.{Option, none, some}
use mathlib.Core.Logic.{⊎_elim}
use Prim.Native.Nat.{ℕ, suc, ◌+◌, ◌*◌, ◌-◌, ◌≤◌, ◌<◌}
use native.Mathlib.Omega.{arith}
use borrow.Author.Tests.{lt-ltb, le-ltb}
use Rattle.plane.specs.Plane.{on_at, apart}
use Rattle.plane.proofs.Search.{not-both}
use Rattle.std.proofs.lemmas.Bool.{cases_Bool, cases_lt}
use Rattle.line.specs.steps.FirstLeast.{first_least, First, Answers}
use Rattle.line.specs.steps.Columns.{attach, chosen}
use Rattle.line.specs.Grid.{value_of, upto, plus}
use Rattle.line.proofs.Squares.{apart-zero, square_le, square-lt}
use Rattle.line.proofs.Walk.{clash, same, walk-answers}
use Rattle.line.proofs.Grid.{column_best, column_cost, walk-line, compose}
use Rattle.nearest.specs.Nearest.{row_cost, nearest, away, distance_to, distance}
use Rattle.nearest.specs.IsNearest.{IsNearest}
use Rattle.nearest.specs.steps.Towards.{towards}

module _ (mask : List ℕ) (h w y x : ℕ) where
  -- the number of a pixel in the walk
  abbrev far : ℕ → ℕ → Option ℕ
  far i j = plus (apart x i * apart x i) (row_cost mask w y i j)

  on-far : (i j : ℕ) → on_at mask w j i ≡ true → far i j ≡ some (away y x j i)
  unfolding plus row_cost away
  on-far i j e = rw e

  off-far : (i j : ℕ) → on_at mask w j i ≡ false → far i j ≡ none
  unfolding plus row_cost
  off-far i j e = rw e

  far-on : (i j v : ℕ) → far i j ≡ some v → (on_at mask w j i ≡ true) × (v ≡ away y x j i)
  far-on i j v e =
      ⊎_elim {C = (on_at mask w j i ≡ true) × (v ≡ away y x j i)}
      (λ (t : on_at mask w j i ≡ true). (t, same (far i j) v (away y x j i) e (on-far i j t)))
      (λ (t : on_at mask w j i ≡ false). clash (far i j) v (off-far i j t) e)
      (cases_Bool (on_at mask w j i))

  far-off : (i j : ℕ) → far i j ≡ none → on_at mask w j i ≡ false
  far-off i j e =
      ⊎_elim {C = on_at mask w j i ≡ false}
      (λ (t : on_at mask w j i ≡ true). clash (far i j) (away y x j i) e (on-far i j t))
      (λ (t : on_at mask w j i ≡ false). t)
      (cases_Bool (on_at mask w j i))

  -- what an answer says
  Good : Option (ℕ × ℕ) → Type 0
  Good none = (j i : ℕ) → j < h → i < w → on_at mask w j i ≡ false
  Good (some q) = IsNearest mask h w y x q.0 q.1

  column-answers : (i : ℕ) → Answers (far i) h (column_best far (upto h) i)
  column-answers i = subst (Answers (far i) h) (sym (walk-line (far i) h)) (walk-answers (far i) h)

  -- a column whose walk has no number has nothing on
  empty : (i : ℕ) (b : Option ℕ) → Answers (far i) h b → value_of (far i) b ≡ none → (j : ℕ) → j < h → on_at mask w j i ≡ false
  unfolding value_of
  empty i none a e j l = far-off i j (a j l)
  empty i (some k) a e j l = clash (far i k) a.0 e a.1.here

  -- the number of a column's walk is no larger than that of any on-pixel in it
  bound-from : (i j : ℕ) → j < h → on_at mask w j i ≡ true → (b : Option ℕ) → Answers (far i) h b
      → (v : ℕ) × (value_of (far i) b ≡ some v) × (v ≤ away y x j i)
  unfolding value_of
  bound-from i j l t none a = not-both (on_at mask w j i) t (far-off i j (a j l))
  bound-from i j l t (some k) a = (a.0, a.1.here, a.1.least j (away y x j i) l (on-far i j t))

  bound : (i j : ℕ) → j < h → on_at mask w j i ≡ true → (v : ℕ) × (column_cost far (upto h) i ≡ some v) × (v ≤ away y x j i)
  bound i j l t = bound-from i j l t (column_best far (upto h) i) (column-answers i)

  -- the chosen column's own answer
  chosen-good : (i v : ℕ) → First (column_cost far (upto h)) w i v → (b : Option ℕ) → Answers (far i) h b → value_of (far i) b ≡ some v
      → Good (attach i b)
  unfolding Good attach value_of
  chosen-good i v a none c e = clash none v refl e
  chosen-good i v a (some j) c e =
      let u = c.0 in
      let d = far-on i j u c.1.here in
      let d-is = d.1 in
      let v-is : u ≡ v = same (far i j) u v c.1.here e in
      record {
        row_inside = c.1.inside;
        column_inside = a.inside;
        pixel_on = d.0;
        least = λ k l g m t. (let z = bound l k g t in let n = a.least l z.0 m z.1 in let q = z.2 in omega arith);
        first_column = λ k l g m t.
            (let z = bound l k (omega arith) t in let n = a.first l z.0 m z.1 in let q = z.2 in omega arith);
        first_row = λ k g t. (let n = c.1.first k (away y x k i) g (on-far i k t) in omega arith);
      }

  answer-good : (b : Option ℕ) → Answers (column_cost far (upto h)) w b → Good (chosen (column_best far (upto h)) b)
  unfolding chosen
  answer-good none a = unfold Good in (λ j i l g. empty i (column_best far (upto h) i) (column-answers i) (a i g) j l)
  answer-good (some i) a = chosen-good i a.0 a.1 (column_best far (upto h) i) (column-answers i) a.1.here

  good : Good (nearest mask h w y x)
  unfolding nearest
  good = rw (compose far (upto h) w) (answer-good (first_least (column_cost far (upto h)) w) (walk-answers (column_cost far (upto h)) w))

  -- the answer is the nearest on-pixel
  pub nearest-some : (i j : ℕ) → nearest mask h w y x ≡ some (i, j) → IsNearest mask h w y x i j
  unfolding Good
  nearest-some i j e = subst Good e good

  -- no answer: nothing is on
  pub nearest-none : nearest mask h w y x ≡ none → (j i : ℕ) → j < h → i < w → on_at mask w j i ≡ false
  unfolding Good
  nearest-none e = subst Good e good

  -- two answers are one
  column-le : {i j k l : ℕ} → IsNearest mask h w y x i j → IsNearest mask h w y x k l → i ≤ k
  column-le {i} {j} {k} {l} p q =
      let m = q.least j i p.row_inside p.column_inside p.pixel_on in
      ⊎_elim (λ (g : k < i). (let z = p.first_column l k q.row_inside g q.pixel_on in absurd (omega arith))) (λ g. g) (cases_lt k i)

  row-le : {i j l : ℕ} → IsNearest mask h w y x i j → IsNearest mask h w y x i l → j ≤ l
  row-le {i} {j} {l} p q =
      let m = q.least j i p.row_inside p.column_inside p.pixel_on in
      ⊎_elim (λ (g : l < j). (let z = p.first_row l g q.pixel_on in absurd (omega arith))) (λ g. g) (cases_lt l j)

  one : (i j k l : ℕ) → IsNearest mask h w y x i j → IsNearest mask h w y x k l → (i ≡ k) × (j ≡ l)
  one i j k l p q =
      let e : k ≡ i = omega (arith, column-le p q, column-le q p) in
      let there : IsNearest mask h w y x i l = rw e at q in
      (omega arith, omega (arith, row-le p there, row-le there p))

  is-from : (i j : ℕ) → IsNearest mask h w y x i j → (r : Option (ℕ × ℕ)) → Good r → r ≡ some (i, j)
  unfolding Good
  is-from i j p none g = not-both (on_at mask w j i) p.pixel_on (g j i p.row_inside p.column_inside)
  is-from i j p (some q) g =
      let e = one q.0 q.1 i j g p in
      ap (λ (n : ℕ). some (n, q.1)) e.0 ∙ ap (λ (n : ℕ). some (i, n)) e.1

  -- and nothing else is the answer
  pub nearest-is : (i j : ℕ) → IsNearest mask h w y x i j → nearest mask h w y x ≡ some (i, j)
  nearest-is i j p = is-from i j p (nearest mask h w y x) good

  none_from : ((j i : ℕ) → j < h → i < w → on_at mask w j i ≡ false) → (r : Option (ℕ × ℕ)) → Good r → r ≡ none
  unfolding Good
  none_from p none g = refl
  none_from p (some q) g = not-both (on_at mask w q.1 q.0) g.pixel_on (p q.1 q.0 g.row_inside g.column_inside)

  pub nothing-on : ((j i : ℕ) → j < h → i < w → on_at mask w j i ≡ false) → nearest mask h w y x ≡ none
  nothing-on p = none_from p (nearest mask h w y x) good

  found_from : (k l : ℕ) → k < h → l < w → on_at mask w k l ≡ true → (r : Option (ℕ × ℕ)) → Good r → (i : ℕ) × (j : ℕ) × (r ≡ some (i, j))
  unfolding Good
  found_from k l a b t none g = not-both (on_at mask w k l) t (g k l a b)
  found_from k l a b t (some q) g = (q.0, q.1, refl)

  -- where something is on there is an answer
  pub nearest-found : (k l : ℕ) → k < h → l < w → on_at mask w k l ≡ true → (i : ℕ) × (j : ℕ) × (nearest mask h w y x ≡ some (i, j))
  nearest-found k l a b t = found_from k l a b t (nearest mask h w y x) good

-- ---- one step from the answer

-- a step towards y, by which of the two is less
towards-by : (P : ℕ → Type 0) (j y : ℕ) → (j < y → P (j + 1)) → (y < j → P (j - 1)) → (j ≡ y → P j) → P (towards j y)
unfolding towards
towards-by P j y a b c =
    ⊎_elim
    (λ (l : j < y). rw (lt-ltb j y l) (a l))
    (λ (l : y ≤ j).
    rw (le-ltb j y l)
    (⊎_elim (λ (m : y < j). rw (lt-ltb y j m) (b m)) (λ (m : j ≤ y). rw (le-ltb y j m) (c (omega arith))) (cases_lt y j)))
    (cases_lt j y)

pub towards-inside : (n j y : ℕ) → j < n → y < n → towards j y < n
towards-inside n j y a b = towards-by (λ (t : ℕ). t < n) j y (λ l. omega arith) (λ l. omega arith) (λ e. a)

-- it is at most one row away
pub towards-near : (j y : ℕ) → apart (towards j y) j ≤ 1
unfolding apart
towards-near j y = towards-by (λ (t : ℕ). apart t j ≤ 1) j y (λ l. omega arith) (λ l. omega arith) (λ e. omega arith)

-- and nearer by one, where they differ
towards-apart : (j y : ℕ) → apart y (towards j y) ≡ apart y j - 1
unfolding apart
towards-apart j y = towards-by (λ (t : ℕ). apart y t ≡ apart y j - 1) j y (λ l. omega arith) (λ l. omega arith) (λ e. omega arith)

-- one step from (j, i) towards (y, x) is strictly nearer to (y, x), unless they are the same
pub step-nearer : (y x j i : ℕ) → ((j ≡ y) × (i ≡ x) → ⊥) → away y x (towards j y) (towards i x) < away y x j i
unfolding away
step-nearer y x j i n =
    let p = square_le {a = apart y j - 1} {b = apart y j} (omega arith) in
    let q = square_le {a = apart x i - 1} {b = apart x i} (omega arith) in
    rw (towards-apart j y, towards-apart i x)
    (⊎_elim
    (λ (l : 0 < apart y j). (let s = square-lt {a = apart y j - 1} {b = apart y j} (omega arith) in omega arith))
    (λ (l : apart y j ≤ 0).
    ⊎_elim
    (λ (m : 0 < apart x i). (let s = square-lt {a = apart x i - 1} {b = apart x i} (omega arith) in omega arith))
    (λ (m : apart x i ≤ 0). absurd (n (apart-zero y j (omega arith), apart-zero x i (omega arith))))
    (cases_lt 0 (apart x i)))
    (cases_lt 0 (apart y j)))

module _ (mask : List ℕ) (h w y x : ℕ) (row : y < h) (column : x < w) where
  -- so that pixel is off
  pub step-off : (i j : ℕ) → nearest mask h w y x ≡ some (i, j) → ((j ≡ y) × (i ≡ x) → ⊥) → on_at mask w (towards j y) (towards i x) ≡ false
  step-off i j e n =
      let p = nearest-some mask h w y x i j e in
      let s = step-nearer y x j i n in
      let j' = towards-inside h j y p.row_inside row in
      let i' = towards-inside w i x p.column_inside column in
      ⊎_elim
      (λ (t : on_at mask w (towards j y) (towards i x) ≡ true).
      (let l = p.least (towards j y) (towards i x) j' i' t in absurd (omega arith)))
      (λ t. t)
      (cases_Bool (on_at mask w (towards j y) (towards i x)))

-- ---- distances

apart_low : (a b n : ℕ) → a < n → b < n → apart a b ≤ n
unfolding apart
apart_low a b n l m = omega arith

module _ (mask : List ℕ) (h w y x : ℕ) where
  -- the distance is that to the answer
  pub distance_some : (i j : ℕ) → nearest mask h w y x ≡ some (i, j) → distance mask h w y x ≡ away y x j i
  unfolding distance distance_to
  distance_some i j e = rw e

  pub distance_none : nearest mask h w y x ≡ none → distance mask h w y x ≡ suc y * suc y + x * x
  unfolding distance distance_to
  distance_none e = rw e

  -- no on-pixel is nearer than the distance
  pub distance_least : (k l : ℕ) → k < h → l < w → on_at mask w k l ≡ true → distance mask h w y x ≤ away y x k l
  distance_least k l a b t =
      let f = nearest-found mask h w y x k l a b t in
      let p = nearest-some mask h w y x f.0 f.1 f.2 in
      let d = distance_some f.0 f.1 f.2 in
      let m = p.least k l a b t in
      omega arith

  -- it is at most the sum of the squares of the sides
  most-from : y < h → x < w → (r : Option (ℕ × ℕ)) → nearest mask h w y x ≡ r → distance mask h w y x ≤ h * h + w * w
  unfolding away
  most-from a b none e =
      let d = distance_none e in
      let p = square_le {a = suc y} {b = h} a in
      let q = square_le {a = x} {b = w} (omega arith) in
      omega arith
  most-from a b (some q) e =
      let d = distance_some q.0 q.1 e in
      let n = nearest-some mask h w y x q.0 q.1 e in
      let s = square_le (apart_low y q.1 h a n.row_inside) in
      let t = square_le (apart_low x q.0 w b n.column_inside) in
      omega arith

  pub distance_most : y < h → x < w → distance mask h w y x ≤ h * h + w * w
  distance_most a b = most-from a b (nearest mask h w y x) refl
