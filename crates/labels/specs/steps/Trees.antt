-- Provisional labels and the trees that join them, which the contracts of the functions of `label` cite.
-- Assumes nothing.
use Rattle.std.specs.Prelude.{◌≡◌, Bool, true, false, cond, ◌&&◌, ◌⊎◌, List, ℕ, ◌+◌, ◌*◌, ◌-◌, ◌≤◌, ◌<◌, eqb, ltb, length, get_or, set}
use Rattle.plane.specs.declared.size.Mask.{Mask}
use Rattle.plane.specs.Search.{count_below}
use Rattle.plane.specs.Mask.{is_on}
use Rattle.plane.specs.Box.{lesser_of}
use Rattle.labels.specs.Labels.{beside, Joined, renamed, is_first}

-- what a call of `label` is lent for n pixels: a label for each, and work space of one number more; labels are stored in 32 bits
pub record Given (parents labels : List ℕ) (n : ℕ) : Type 0 where
  pub few : n < 4294967296
  pub output : length labels ≡ n
  pub room : n < length parents

-- ---- trees of labels

-- each label from 0 to m has a parent: itself, if it is a root, or a lesser label of its tree; rep l is the root of label l's tree
pub record Forest (parents : List ℕ) (m : ℕ) (rep : ℕ → ℕ) : Type 0 where
  pub room : m < length parents
  pub down : (l : ℕ) → l ≤ m → get_or parents l 0 ≤ l
  pub along : (l : ℕ) → l ≤ m → rep (get_or parents l 0) ≡ rep l
  pub top : (l : ℕ) → l ≤ m → get_or parents l 0 ≡ l → rep l ≡ l
  pub low : (l : ℕ) → rep l ≤ l
  pub some : (l : ℕ) → 0 < l → 0 < rep l
  pub again : (l : ℕ) → rep (rep l) ≡ rep l
  pub beyond : (l : ℕ) → m < l → rep l ≡ l

-- the parents make such trees
pub record Trees (parents : List ℕ) (m : ℕ) : Type 0 where
  pub rep : ℕ → ℕ
  pub forest : Forest parents m rep

-- r is the root of l, and every label keeps its root
pub record Found (old new : List ℕ) (m l r : ℕ) : Type 0 where
  pub same_trees : (rep : ℕ → ℕ) → Forest old m rep → Forest new m rep
  pub root : (rep : ℕ → ℕ) → Forest old m rep → r ≡ rep l

-- what `join` is given: two labels of such trees
pub record Joinable (parents : List ℕ) (m a b : ℕ) : Type 0 where
  pub trees : Trees parents m
  pub a_some : 0 < a
  pub a_in : a ≤ m
  pub b_some : 0 < b
  pub b_in : b ≤ m

-- the trees of labels a and b are one, and r is its root
pub record Linked (old new : List ℕ) (m a b r : ℕ) : Type 0 where
  pub trees : (rep : ℕ → ℕ) → Forest old m rep → Forest new m (λ (l : ℕ). renamed (rep a) (rep b) (rep l))
  pub root : (rep : ℕ → ℕ) → Forest old m rep → r ≡ lesser_of (rep a) (rep b)

-- ---- the first pass over the pixels

-- what `place` is given: the labels of two neighbours, 0 for none, and room for a new label
pub record Placeable (parents : List ℕ) (m left up : ℕ) : Type 0 where
  pub trees : Trees parents m
  pub left_in : left ≤ m
  pub up_in : up ≤ m
  pub room : m + 1 < length parents
  pub small : m + 1 < 4294967296

-- the label r of a pixel with byte v, from those of the pixels to the left, above, and above to the left (0 for none):
-- 0 when it is off; a new one when neither neighbour has one; else that of a neighbour, with the two neighbours' trees joined
pub data Placed (v left up diag m : ℕ) (old new : List ℕ) (r : ℕ) : Type 0 where
  dark : v ≡ 0 → r ≡ 0 → new ≡ old → Placed v left up diag m old new r
  fresh : (v ≡ 0 → ⊥) → left ≡ 0 → up ≡ 0 → r ≡ m + 1 → new ≡ set old (m + 1) (m + 1) → Placed v left up diag m old new r
  from-above : (v ≡ 0 → ⊥) → left ≡ 0 → 0 < up → r ≡ up → new ≡ old → Placed v left up diag m old new r
  from-left : (v ≡ 0 → ⊥) → 0 < left → (up ≡ 0) ⊎ (0 < diag) → r ≡ left → new ≡ old → Placed v left up diag m old new r
  from-both : (v ≡ 0 → ⊥) → 0 < left → 0 < up → Linked old new m left up r → Placed v left up diag m old new r

-- the label of the pixel above pixel i, 0 for none
unfoldable pub up_at : List ℕ → ℕ → ℕ → ℕ
up_at labels w i = cond (ltb i w) 0 (get_or labels (i - w) 0)

-- of the pixel to the left of pixel i, which is in column x
unfoldable pub left_at : List ℕ → ℕ → ℕ → ℕ
left_at labels i x = cond (eqb x 0) 0 (get_or labels (i - 1) 0)

-- of the pixel above that one
unfoldable pub diag_at : List ℕ → ℕ → ℕ → ℕ → ℕ
diag_at labels w i x = cond (eqb x 0) 0 (up_at labels w (i - 1))

-- the first t pixels have provisional labels from 1 to m, and two of them that are on and beside each other have one root;
-- label l was new at pixel seed l, which is joined to every pixel whose root it is
pub record Scanned (mask labels parents : List ℕ) (h w t m : ℕ) : Type 0 where
  pub rep : ℕ → ℕ
  pub seed : ℕ → ℕ
  pub forest : Forest parents m rep
  pub few : m ≤ t
  pub off : (k : ℕ) → k < t → is_on mask k ≡ false → get_or labels k 0 ≡ 0
  pub on : (k : ℕ) → k < t → is_on mask k ≡ true → (0 < get_or labels k 0) × (get_or labels k 0 ≤ m)
  pub joined : (k : ℕ) → k < t → is_on mask k ≡ true → Joined mask w (seed (rep (get_or labels k 0))) k
  pub alike : (j k : ℕ) → j < t → k < t → is_on mask j ≡ true → is_on mask k ≡ true → beside w j k ≡ true
      → rep (get_or labels j 0) ≡ rep (get_or labels k 0)
  pub rises : (a b : ℕ) → 0 < a → a < b → b ≤ m → seed a < seed b
  pub inside : (l : ℕ) → 0 < l → l ≤ m → seed l < t
  pub own : (l : ℕ) → 0 < l → l ≤ m → (is_on mask (seed l) ≡ true) × (get_or labels (seed l) 0 ≡ l)
  pub starts : (k : ℕ) → k < t → is_first mask h w k ≡ true → seed (get_or labels k 0) ≡ k

-- what `scan_row` is given: the rows above row y are scanned
pub record RowsDone (mask : Mask) (labels parents : List ℕ) (y m : ℕ) : Type 0 where
  pub given : Given parents labels (mask.size.h * mask.size.w)
  pub row : y < mask.size.h
  pub so_far : Scanned mask.pixels.now labels parents mask.size.h mask.size.w (y * mask.size.w) m

-- ---- the numbers of the trees

-- whether label l is a root
unfoldable pub is_root : List ℕ → ℕ → Bool
is_root parents l = ltb 0 l && eqb (get_or parents l 0) l

-- what `number` is given: label k has a parent that is not above it
pub record Numberable (parents : List ℕ) (k n : ℕ) : Type 0 where
  pub inside : k < length parents
  pub down : get_or parents k 0 ≤ k
  pub small : n + 1 < 4294967296

-- the roots below label k are n, and the labels below k have the numbers of their roots, counted from 1
pub record Numbered (old new : List ℕ) (m k n : ℕ) : Type 0 where
  pub long : length new ≡ length old
  pub count : n ≡ count_below k (is_root old)
  pub zero : get_or new 0 0 ≡ 0
  pub done : (rep : ℕ → ℕ) → Forest old m rep → (l : ℕ) → 0 < l → l < k
      → get_or new l 0 ≡ 1 + count_below (rep l) (is_root old)
  pub rest : (l : ℕ) → k ≤ l → get_or new l 0 ≡ get_or old l 0
