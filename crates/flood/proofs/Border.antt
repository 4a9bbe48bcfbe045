-- The border list by place: its length, each of its four parts, and that it lies in the plane.
-- Assumes nothing.
use Rattle.std.proofs.Common.{◌≡◌, ℕ, zero, suc, ◌+◌, ◌-◌, ◌*◌, ◌<◌, ◌≤◌, List, ◌++◌, length, get_or, ap, ◌∙◌, le_of_suc-le-suc, not-suc-le-zero, add-zero, arith, length-append, get_or-append-add}
use lib.ListN.{get_or-append}
use Rattle.plane.specs.Plane.{table}
use Rattle.plane.specs.steps.Sides.{Sides}
use Rattle.plane.proofs.Plane.{table-length, area-most}
use Rattle.outline.specs.Border.{row_pixels, inner_column, border_list, on_border}
use Rattle.outline.proofs.Borders.{listed_at, border-inside}

-- an element of a table from k on
table-from : (f : ℕ → ℕ) (k n i : ℕ) → i < n → get_or (table f k n) i 0 ≡ f (k + i)
unfolding table
table-from f k zero i l = absurd (not-suc-le-zero l)
table-from f k (suc n) zero l = ap f (omega arith)
table-from f k (suc n) (suc i) l = table-from f (suc k) n i (le_of_suc-le-suc l) ∙ ap f (omega arith)

-- an element of two lists, of which the first has n
in-front : (l m : List ℕ) (n k : ℕ) → length l ≡ n → k < n → get_or (l ++ m) k 0 ≡ get_or l k 0
in-front l m n k e h = get_or-append l m 0 k (omega arith)

behind : (l m : List ℕ) (n k : ℕ) → length l ≡ n → n ≤ k → get_or (l ++ m) k 0 ≡ get_or m (k - n) 0
behind l m n k e h =
    let q : k ≡ length l + (k - n) = omega arith in
    ap (λ (i : ℕ). get_or (l ++ m) i 0) q ∙ get_or-append-add l m (k - n) 0

module _ (h w : ℕ) where
  -- the two rows, and with them the first column
  abbrev rows : List ℕ
  rows = row_pixels w 0 ++ row_pixels w (h - 1)

  abbrev left : List ℕ
  left = rows ++ inner_column h w 0

  row-length : (y : ℕ) → length (row_pixels w y) ≡ w
  unfolding row_pixels
  row-length y = table-length (λ (x : ℕ). y * w + x) 0 w

  column-length : (x : ℕ) → length (inner_column h w x) ≡ h - 2
  unfolding inner_column
  column-length x = table-length (λ (y : ℕ). y * w + x) 1 (h - 2)

  rows-length : length rows ≡ w + w
  rows-length = simp (length-append, row-length)

  left-length : length left ≡ w + w + (h - 2)
  left-length = simp (length-append rows, rows-length, column-length)

  pub border-length : length (border_list h w) ≡ w + w + (h - 2) + (h - 2)
  unfolding border_list
  border-length = simp (length-append left, left-length, column-length)

  -- pixel k, where it is in the first row, the last row, the first column, the last column
  pub first_row : (k : ℕ) → k < w → get_or (border_list h w) k 0 ≡ k
  unfolding border_list row_pixels
  first_row k l =
      in-front left (inner_column h w (w - 1)) _ k left-length (omega arith)
      ∙ in-front rows (inner_column h w 0) _ k rows-length (omega arith)
      ∙ in-front (row_pixels w 0) (row_pixels w (h - 1)) w k (row-length 0) l
      ∙ table-from (λ (x : ℕ). 0 * w + x) 0 w k l ∙ omega arith

  pub last_row : (k : ℕ) → w ≤ k → k < w + w → get_or (border_list h w) k 0 ≡ (h - 1) * w + (k - w)
  unfolding border_list row_pixels
  last_row k m l =
      in-front left (inner_column h w (w - 1)) _ k left-length (omega arith) ∙ in-front rows (inner_column h w 0) _ k rows-length l
      ∙ behind (row_pixels w 0) (row_pixels w (h - 1)) w k (row-length 0) m
      ∙ table-from (λ (x : ℕ). (h - 1) * w + x) 0 w (k - w) (omega arith) ∙ omega arith

  pub first_column : (k : ℕ) → w + w ≤ k → k < w + w + (h - 2) → get_or (border_list h w) k 0 ≡ (k - (w + w) + 1) * w
  unfolding border_list inner_column
  first_column k m l =
      in-front left (inner_column h w (w - 1)) _ k left-length l ∙ behind rows (inner_column h w 0) _ k rows-length m
      ∙ table-from (λ (y : ℕ). y * w + 0) 1 (h - 2) (k - (w + w)) (omega arith) ∙ add-zero _ ∙ ap (λ (y : ℕ). y * w) (omega arith)

  pub last-column : (k : ℕ) → w + w + (h - 2) ≤ k → k < length (border_list h w)
      → get_or (border_list h w) k 0 ≡ (k - (w + w) + 1 - (h - 2)) * w + (w - 1)
  unfolding border_list inner_column
  last-column k m l =
      behind left (inner_column h w (w - 1)) _ k left-length m
      ∙ table-from (λ (y : ℕ). y * w + (w - 1)) 1 (h - 2) _ (omega (arith, border-length)) ∙ ap (λ (y : ℕ). y * w + (w - 1)) (omega arith)

-- it lies in the plane, so its pixels are small numbers
pub border-in : {h w : ℕ} (k : ℕ) → Sides h w → k < length (border_list h w) → get_or (border_list h w) k 0 < h * w
unfolding on_border
border-in {h} {w} k s l = border-inside h w s.some_rows s.some_columns _ (listed_at (border_list h w) k l)

pub border-small : {h w : ℕ} (k : ℕ) → Sides h w → k < length (border_list h w) → get_or (border_list h w) k 0 < 4294967296
border-small k s l = omega (arith, border-in k s l, area-most s.tall s.wide)

-- for the check of what is read by place
pub ruleset by_place = (border-length, first_row, last_row, first_column, last-column, border-in, border-small)
