-- Boxes: rows y0 to y1 and columns x0 to x1 of a picture, ends excluded; the box of a mask's on-pixels.
-- Assumes nothing.
use Rattle.std.specs.Prelude.{ℕ, ◌+◌, ◌-◌, Bool, cond, List, leb}
use Rattle.plane.specs.Plane.{on_at}
use Rattle.plane.specs.Search.{some_below, first_below, last_below}
use Rattle.plane.specs.declared.Box.{Box}

-- whether row y, or column x, of a mask has an on-pixel (R35)
unfoldable pub row_has : List ℕ → ℕ → ℕ → Bool
row_has mask w y = some_below w (λ (x : ℕ). on_at mask w y x)

unfoldable pub column_has : List ℕ → ℕ → ℕ → ℕ → Bool
column_has mask h w x = some_below h (λ (y : ℕ). on_at mask w y x)

-- the lesser of two numbers (R6, R35)
unfoldable pub lesser_of : ℕ → ℕ → ℕ
lesser_of a b = cond (leb a b) a b

-- the box of a mask's on-pixels, with a margin added on each side, clamped to the picture (R35)
unfoldable pub box_of : List ℕ → ℕ → ℕ → ℕ → Box
box_of mask h w margin =
    record {
      y0 = first_below h (row_has mask w) - margin;
      y1 = lesser_of h (last_below h (row_has mask w) + 1 + margin);
      x0 = first_below w (column_has mask h w) - margin;
      x1 = lesser_of w (last_below w (column_has mask h w) + 1 + margin);
    }

-- the whole picture (R36)
unfoldable pub whole_of : ℕ → ℕ → Box
whole_of h w = record { y0 = 0; y1 = h; x0 = 0; x1 = w }
