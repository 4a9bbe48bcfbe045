-- Laws of the box of a mask, with any margin: it has every pixel of the mask, and lies in the picture.
-- Assumes nothing.
use mathlib.Core.Path.{◌≡◌}
use mathlib.Core.Bool.{true}
use mathlib.Core.List.{List}
use Prim.Native.Nat.{ℕ, ◌+◌, ◌≤◌, ◌<◌}
use native.Mathlib.Omega.{arith}
use Rattle.plane.specs.Plane.{on_at}
use Rattle.plane.specs.Search.{last_below}
use Rattle.plane.specs.Box.{row_has, column_has, box_of}
use Rattle.plane.specs.declared.Box.{Box}
use Rattle.plane.proofs.Search.{some_is}
use Rattle.plane.proofs.Bounds.{between, lesser-min}

-- a box that is accepted for a picture (R50): y0 < y1 ≤ h and x0 < x1 ≤ w
pub record BoxIn (h w : ℕ) (b : Box) : Type 0 where
  pub some_rows : b.y0 < b.y1
  pub rows_in : b.y1 ≤ h
  pub some_columns : b.x0 < b.x1
  pub columns_in : b.x1 ≤ w

-- pixel (y, x) is in a box
pub record Has (b : Box) (y x : ℕ) : Type 0 where
  pub from_row : b.y0 ≤ y
  pub to_row : y < b.y1
  pub from_column : b.x0 ≤ x
  pub to_column : x < b.x1

module _ (mask : List ℕ) (h w margin y x : ℕ) (row : y < h) (column : x < w) (pixel_on : on_at mask w y x ≡ true) where
  -- the box has every pixel of the mask,
  pub box-has : Has (box_of mask h w margin) y x
  unfolding box_of row_has column_has
  box-has =
      let r = between (row_has mask w) h y row (some_is (λ (i : ℕ). on_at mask w y i) w x column pixel_on) in
      let c = between (column_has mask h w) w x column (some_is (λ (j : ℕ). on_at mask w j x) h y row pixel_on) in
      record {
        from_row = omega (arith, r.0);
        to_row = omega (arith, r.1, lesser-min h (last_below h (row_has mask w) + 1 + margin));
        from_column = omega (arith, c.0);
        to_column = omega (arith, c.1, lesser-min w (last_below w (column_has mask h w) + 1 + margin));
      }

  -- and is one of the picture where there is such a pixel
  pub box_in : BoxIn h w (box_of mask h w margin)
  unfolding box_of
  box_in =
      let z : Has (box_of mask h w margin) y x = box-has in
      record {
        some_rows = omega (arith, z.from_row, z.to_row);
        rows_in = omega (arith, lesser-min h (last_below h (row_has mask w) + 1 + margin));
        some_columns = omega (arith, z.from_column, z.to_column);
        columns_in = omega (arith, lesser-min w (last_below w (column_has mask h w) + 1 + margin));
      }
