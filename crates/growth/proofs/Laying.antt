-- The shallow plane, the deep plane and the edge marks, from the dilations of the background.
-- Assumes nothing.
use mathlib.Core.Path.{◌≡◌, refl, sym, ap, ◌∙◌}
use mathlib.Core.Bool.{Bool, true, false, not, ◌&&◌}
use mathlib.Core.List.{List}
use mathlib.Core.Logic.{⊎_elim}
use Prim.Native.Nat.{ℕ, ◌*◌, ◌<◌, ◌/◌, ◌%◌}
use native.Mathlib.Omega.{arith}
use lib.ListN.{length}
use Rattle.std.proofs.Common.{replicate}
use Rattle.std.proofs.lemmas.List.{length-replicate, get_or-replicate}
use Rattle.plane.proofs.Mask.{mask-same, mask-length, mask-on, index_on}
use Rattle.plane.specs.Plane.{bit, apart, table}
use Rattle.plane.specs.Search.{some_below}
use Rattle.plane.proofs.Search.{some_same}
use Rattle.std.proofs.lemmas.Bool.{cases_Bool}
use Rattle.plane.proofs.Plane.{row_of, column-of, plane-index, table_same, table_is, on_bit}
use Rattle.plane.specs.Mask.{is_on, mask_of}
use Rattle.plane.specs.steps.Complement.{complement_of}
use Rattle.squares.specs.Squares.{reach, in_square, squares_plane}
use Rattle.squares.proofs.Laws.{reach-some, square-is, squares-length}
use Rattle.outline.specs.Growth.{near_ground, is_edge, is_shallow, is_deep}
use Rattle.growth.specs.steps.Marks.{edge_test, edge_mark}

-- ---- planes by dilation

module _ (back : List ℕ) (h w : ℕ) (wide : 0 < w) where
  -- the pixels that are not within k of the background
  abbrev far : ℕ → ℕ → Bool
  far k i = not (near_ground back h w k i)

  abbrev shallows : ℕ → Bool
  shallows = is_shallow back h w

  -- the dilation tells what is near the background
  dilated-on : (k i : ℕ) → 0 < k → i < h * w → is_on (squares_plane back h w k) i ≡ near_ground back h w k i
  unfolding is_on squares_plane near_ground
  dilated-on k i p l =
      rw (plane-index h w (λ (y x : ℕ). bit (in_square back h w (reach h w k) y x)) i 0 wide l, on_bit, reach-some h w k p)

  -- what is not near it, by the dilation
  far_from : (k : ℕ) → 0 < k → complement_of (squares_plane back h w k) ≡ mask_of (h * w) (far k)
  unfolding complement_of
  far_from k p =
      let there : ℕ → Bool = λ (i : ℕ). not (is_on (squares_plane back h w k) i) in
      ap (λ (n : ℕ). mask_of n there) (squares-length back h w k)
      ∙ mask-same (h * w) there (far k) (λ i l. ap not (dilated-on k i p l))

  pub deep-laid : complement_of (squares_plane back h w 4) ≡ mask_of (h * w) (is_deep back h w)
  unfolding is_deep
  deep-laid = far_from 4 (omega arith)

  -- the background is near itself
  self-near : (i : ℕ) → i < h * w → is_on back i ≡ true → near_ground back h w 1 i ≡ true
  unfolding near_ground apart
  self-near i l e =
      square-is
      (record {
        row = i / w;
        column = i % w;
        row_in = row_of i h w wide l;
        column_in = column-of i w wide;
        lit = index_on back w i ∙ e;
        rows = omega arith;
        columns = omega arith;
      })

  shallow_is : (i : ℕ) → i < h * w → far 1 i ≡ shallows i
  unfolding is_shallow
  shallow_is i l =
      ⊎_elim {C = far 1 i ≡ not (is_on back i) && far 1 i}
      (λ (e : is_on back i ≡ true). rw (e, self-near i l e))
      (λ (e : is_on back i ≡ false). rw e)
      (cases_Bool (is_on back i))

  pub shallow-laid : complement_of (squares_plane back h w 1) ≡ mask_of (h * w) shallows
  shallow-laid = far_from 1 (omega arith) ∙ mask-same (h * w) (far 1) shallows shallow_is

  tests : (a b : Bool) → not a && not (not a && not b) ≡ not a && b
  tests true b = refl
  tests false true = refl
  tests false false = refl

  module _ (shallow : List ℕ) (made : shallow ≡ mask_of (h * w) shallows) (some : Bool)
      (known : some ≡ some_below (length shallow) (is_on shallow)) where
    same : (i : ℕ) → i < h * w → is_on shallow i ≡ shallows i
    same i l = rw made (mask-on (h * w) shallows i l)

    known-is : some ≡ some_below (h * w) shallows
    known-is =
        known
        ∙ ap (λ (n : ℕ). some_below n (is_on shallow)) (ap length made ∙ mask-length (h * w) shallows)
        ∙ some_same (is_on shallow) shallows (h * w) same

    -- where there is a shallow pixel, the edge pixels are what is neither background nor shallow
    pub edge-laid : some ≡ true → mask_of (h * w) (edge_test back shallow) ≡ table (edge_mark back h w) 0 (h * w)
    unfolding mask_of edge_test edge_mark is_edge is_shallow
    edge-laid e =
        table_same (λ (i : ℕ). bit (edge_test back shallow i)) (edge_mark back h w) (h * w) 0
        (λ i l. rw (sym known-is ∙ e, same i l) (ap bit (tests (is_on back i) (near_ground back h w 1 i))))

    -- where there is none, no pixel is
    pub no-edge : some ≡ false → replicate (h * w) 0 ≡ table (edge_mark back h w) 0 (h * w)
    unfolding edge_mark is_shallow bit
    no-edge e =
        table_is (edge_mark back h w) (h * w) _ 0 (length-replicate (h * w) 0)
        (λ i l. get_or-replicate (h * w) i 0 0 l ∙ rw (sym known-is ∙ e))
