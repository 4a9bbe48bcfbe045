-- Laws of squares, over the definitions alone.
-- Assumes nothing.
use mathlib.Core.Path.{◌≡◌, refl, sym}
use mathlib.Core.Bool.{Bool, true, false, cond, ◌&&◌}
use mathlib.Core.List.{List}
use mathlib.Core.Logic.{⊎_elim}
use Prim.Native.Nat.{ℕ, min, max, ◌+◌, ◌*◌, ◌≤◌, ◌<◌}
use native.Mathlib.Omega.{arith}
use lib.Dec.{leb}
use lib.ListN.{length}
use borrow.Author.Tests.{leb-true, le-leb, lt-leb, ne_eqb}
use Rattle.plane.specs.Search.{some_below}
use Rattle.plane.specs.Plane.{bit, on_at, apart, within}
use Rattle.plane.proofs.Search.{some-found, some_is}
use Rattle.std.proofs.lemmas.Bool.{and_from, and_parts, cases_lt}
use Rattle.plane.proofs.Plane.{plane-length}
use Rattle.plane.specs.steps.Sides.{longest_side, Sides}
use Rattle.squares.specs.Squares.{larger, reach, in_square, squares_plane}
use Rattle.squares.specs.steps.Radius.{radius_of}

-- ---- the larger side and the k that is used

-- the larger side is the maximum, and the k that is used is at most that
pub larger-max : (h w : ℕ) → larger h w ≡ max h w
unfolding larger
larger-max h w =
    ⊎_elim {C = cond (leb h w) w h ≡ max h w}
    (λ (a : w < h). rw (lt-leb h w a) (omega arith))
    (λ (a : h ≤ w). rw (le-leb h w a) (omega arith))
    (cases_lt w h)

pub reach-none : (h w : ℕ) → reach h w 0 ≡ larger h w
unfolding reach
reach-none h w = refl

pub reach-some : (h w n : ℕ) → 0 < n → reach h w n ≡ n
unfolding reach
reach-some h w n a = rw (ne_eqb n 0 (λ (e : n ≡ 0). absurd (omega arith)))

pub radius-min : (h w n : ℕ) → radius_of h w n ≡ min (larger h w) (reach h w n)
unfolding radius_of
radius-min h w n =
    ⊎_elim {C = cond (leb (reach h w n) (larger h w)) (reach h w n) (larger h w) ≡ min (larger h w) (reach h w n)}
    (λ (a : larger h w < reach h w n). rw (lt-leb (reach h w n) (larger h w) a) (omega arith))
    (λ (a : reach h w n ≤ larger h w). rw (le-leb (reach h w n) (larger h w) a) (omega arith))
    (cases_lt (larger h w) (reach h w n))

-- so it is no longer than a side may be
pub radius-near : {h w k : ℕ} (n : ℕ) → Sides h w → k ≡ radius_of h w n → k ≤ longest_side
radius-near {h} {w} n sides e = omega (arith, e, radius-min h w n, larger-max h w, sides.tall, sides.wide)

-- ---- an on-pixel within k

-- two tests that hold of the same things are equal
pub same_test : (s t : Bool) → (s ≡ true → t ≡ true) → (t ≡ true → s ≡ true) → s ≡ t
same_test true t p q = sym (p refl)
same_test false true p q = q refl
same_test false false p q = refl

-- an on-pixel of the mask within k of (y, x)
pub record Site (mask : List ℕ) (h w k y x : ℕ) : Type 0 where
  pub row : ℕ
  pub column : ℕ
  pub row_in : row < h
  pub column_in : column < w
  pub lit : on_at mask w row column ≡ true
  pub rows : apart y row ≤ k
  pub columns : apart x column ≤ k

module _ {mask : List ℕ} {h w k y x : ℕ} where
  -- a pixel of the square that is on has a site,
  pub square-found : in_square mask h w k y x ≡ true → Site mask h w k y x
  unfolding in_square within
  square-found e =
      let j = some-found (λ (j : ℕ). some_below w (λ (i : ℕ). on_at mask w j i && within k y x j i)) h e in
      let i = some-found (λ (i : ℕ). on_at mask w j.0 i && within k y x j.0 i) w j.2 in
      let both = and_parts (on_at mask w j.0 i.0) (within k y x j.0 i.0) i.2 in
      let near = and_parts (leb (apart y j.0) k) (leb (apart x i.0) k) both.1 in
      record {
        row = j.0;
        column = i.0;
        row_in = j.1;
        column_in = i.1;
        lit = both.0;
        rows = leb-true (apart y j.0) k near.0;
        columns = leb-true (apart x i.0) k near.1;
      }

  -- and one with a site is on
  pub square-is : Site mask h w k y x → in_square mask h w k y x ≡ true
  unfolding in_square within
  square-is s =
      let near = and_from _ _ (le-leb (apart y s.row) k s.rows) (le-leb (apart x s.column) k s.columns) in
      some_is (λ (j : ℕ). some_below w (λ (i : ℕ). on_at mask w j i && within k y x j i)) h s.row s.row_in
      (some_is (λ (i : ℕ). on_at mask w s.row i && within k y x s.row i) w s.column s.column_in
      (and_from _ _ s.lit near))

-- so squares grow with k
pub square-more : (mask : List ℕ) (h w a b y x : ℕ) → a ≤ b → in_square mask h w a y x ≡ true → in_square mask h w b y x ≡ true
square-more mask h w a b y x l e =
    let s : Site mask h w a y x = square-found e in
    square-is
    (record {
      row = s.row;
      column = s.column;
      row_in = s.row_in;
      column_in = s.column_in;
      lit = s.lit;
      rows = omega (arith, s.rows);
      columns = omega (arith, s.columns);
    })

-- the larger side reaches every pixel where one is on
pub square-all : (mask : List ℕ) (h w y x j i : ℕ) → y < h → x < w → j < h → i < w → on_at mask w j i ≡ true
    → in_square mask h w (larger h w) y x ≡ true
unfolding apart
square-all mask h w y x j i a b c d e =
    let most = larger-max h w in
    square-is (record { row = j; column = i; row_in = c; column_in = d; lit = e; rows = omega arith; columns = omega arith })

-- a k from the larger side on acts as the larger side
square-far : (mask : List ℕ) (h w k y x : ℕ) → y < h → x < w → larger h w ≤ k
    → in_square mask h w k y x ≡ in_square mask h w (larger h w) y x
square-far mask h w k y x a b l =
    same_test (in_square mask h w k y x) (in_square mask h w (larger h w) y x)
    (λ e.
    let s : Site mask h w k y x = square-found e in
    square-all mask h w y x s.row s.column a b s.row_in s.column_in s.lit)
    (square-more mask h w (larger h w) k y x l)

-- so the k that is used gives the same square
pub square-radius : (mask : List ℕ) (h w n y x : ℕ) → y < h → x < w
    → in_square mask h w (radius_of h w n) y x ≡ in_square mask h w (reach h w n) y x
square-radius mask h w n y x a b =
    ⊎_elim {C = in_square mask h w (radius_of h w n) y x ≡ in_square mask h w (reach h w n) y x}
    (λ (l : larger h w < reach h w n).
    let e : radius_of h w n ≡ larger h w = omega (arith, radius-min h w n) in
    rw e (sym (square-far mask h w (reach h w n) y x a b (omega arith))))
    (λ (l : reach h w n ≤ larger h w). (let e : radius_of h w n ≡ reach h w n = omega (arith, radius-min h w n) in rw e))
    (cases_lt (larger h w) (reach h w n))

-- what is within a of something within b is within a + b
pub apart-sum : (p q r a b : ℕ) → apart p q ≤ a → apart q r ≤ b → apart p r ≤ a + b
unfolding apart
apart-sum p q r a b s t = omega arith

-- ---- the whole plane

pub squares-length : (mask : List ℕ) (h w n : ℕ) → length (squares_plane mask h w n) ≡ h * w
unfolding squares_plane
squares-length mask h w n = plane-length h w (λ (y x : ℕ). bit (in_square mask h w (reach h w n) y x))
