-- What is within k of a mask's on-pixels.
-- Assumes nothing.
use mathlib.Core.Path.{◌≡◌, sym, ◌∙◌}
use mathlib.Core.Bool.{true}
use mathlib.Core.List.{List}
use Prim.Native.Nat.{ℕ, ◌+◌, ◌*◌, ◌/◌, ◌%◌, ◌≤◌, ◌<◌}
use native.Mathlib.Omega.{arith}
use borrow.Author.Tests.{eqb-true}
use Rattle.plane.specs.Plane.{apart}
use Rattle.plane.specs.Mask.{is_on}
use Rattle.plane.proofs.Plane.{pixel-in, row_of, column-of}
use Rattle.plane.proofs.Mask.{index_on, row_on}
use Rattle.labels.specs.Labels.{beside}
use Rattle.labels.proofs.Steps.{row_is, column-is}
use Rattle.squares.proofs.Laws.{same_test, Site, square-found, square-is, apart-sum}
use Rattle.outline.specs.Growth.{near_ground}

-- pixel j is within k of pixel i
pub record Nigh (w k i j : ℕ) : Type 0 where
  pub rows : apart (i / w) (j / w) ≤ k
  pub columns : apart (i % w) (j % w) ≤ k

-- an on-pixel within k of pixel i
pub record Within (mask : List ℕ) (h w k i : ℕ) : Type 0 where
  pub site : ℕ
  pub inside : site < h * w
  pub lit : is_on mask site ≡ true
  pub near : Nigh w k i site

module _ {mask : List ℕ} {h w k i : ℕ} where
  pub near-found : near_ground mask h w k i ≡ true → Within mask h w k i
  unfolding near_ground
  near-found e =
      let s : Site mask h w k (i / w) (i % w) = square-found e in
      let r = row_is s.row s.column w s.column_in in
      let q = column-is s.row s.column w s.column_in in
      record {
        site = s.row * w + s.column;
        inside = pixel-in s.row s.column h w s.row_in s.column_in;
        lit = sym (row_on mask w s.row s.column) ∙ s.lit;
        near = record { rows = rw r s.rows; columns = rw q s.columns };
      }

  pub near-is : 0 < w → Within mask h w k i → near_ground mask h w k i ≡ true
  unfolding near_ground
  near-is z s =
      square-is (record {
        row = s.site / w;
        column = s.site % w;
        row_in = row_of s.site h w z s.inside;
        column_in = column-of s.site w z;
        lit = index_on mask w s.site ∙ s.lit;
        rows = s.near.rows;
        columns = s.near.columns;
      })

-- one step up, down, left or right
pub nigh-beside : (w i j : ℕ) → beside w i j ≡ true → Nigh w 1 j i
unfolding beside apart
nigh-beside w i j e =
    let q = eqb-true (apart (i / w) (j / w) + apart (i % w) (j % w)) 1 e in
    record { rows = omega arith; columns = omega arith }

module _ {mask : List ℕ} {h w : ℕ} where
  -- what is within a of a pixel that is within b of the mask is within a + b of the mask
  pub within-sum : {a b i j : ℕ} → Nigh w a i j → Within mask h w b j → Within mask h w (a + b) i
  within-sum {a} {b} {i} {j} n s = record {
    site = s.site;
    inside = s.inside;
    lit = s.lit;
    near = record {
      rows = apart-sum (i / w) (j / w) (s.site / w) a b n.rows s.near.rows;
      columns = apart-sum (i % w) (j % w) (s.site % w) a b n.columns s.near.columns;
    };
  }

  -- an on-pixel is within every distance of the mask
  pub within-self : {k i : ℕ} → i < h * w → is_on mask i ≡ true → Within mask h w k i
  unfolding apart
  within-self {k} {i} l e = record { site = i; inside = l; lit = e; near = record { rows = omega arith; columns = omega arith } }

  pub within_more : {a b i : ℕ} → a ≤ b → Within mask h w a i → Within mask h w b i
  within_more l s =
      let n = s.near in
      record { site = s.site; inside = s.inside; lit = s.lit; near = record { rows = omega arith; columns = omega arith } }

-- within k of a mask of which each pixel is within m of another: within k + m of that other
pub within-within : {mask other : List ℕ} {h w k m i : ℕ} → ((j : ℕ) → is_on mask j ≡ true → Within other h w m j)
    → Within mask h w k i → Within other h w (k + m) i
within-within f s = within-sum s.near (f s.site s.lit)

-- what is near a mask is near one that has all its pixels,
pub near-mono : (a b : List ℕ) (h w : ℕ) → 0 < w → ((j : ℕ) → j < h * w → is_on a j ≡ true → is_on b j ≡ true)
    → (k i : ℕ) → near_ground a h w k i ≡ true → near_ground b h w k i ≡ true
near-mono a b h w z f k i e =
    let s : Within a h w k i = near-found e in
    near-is z (record { site = s.site; inside = s.inside; lit = f s.site s.inside s.lit; near = s.near })

-- so masks with the same pixels on have the same pixels near
pub near_same : (a b : List ℕ) (h w : ℕ) → 0 < w → ((i : ℕ) → i < h * w → is_on a i ≡ is_on b i)
    → (k i : ℕ) → near_ground a h w k i ≡ near_ground b h w k i
near_same a b h w z e k i =
    same_test (near_ground a h w k i) (near_ground b h w k i)
    (near-mono a b h w z (λ j l t. sym (e j l) ∙ t) k i)
    (near-mono b a h w z (λ j l t. e j l ∙ t) k i)
