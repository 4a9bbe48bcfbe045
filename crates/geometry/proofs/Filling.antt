-- Laws of fill: what its loop reads is what the definition says of nearest's answers.
-- Assumes nothing.
use mathlib.Core.Path.{◌≡◌, refl, sym, ap, ◌∙◌}
use mathlib.Core.Bool.{Bool, true, false, cond}
use mathlib.Core.List.{List}
use mathlib.Core.Option.{none, some}
use mathlib.Core.Option as option
use Prim.Native.Nat.{ℕ, ◌+◌, ◌*◌, ◌-◌, ◌/◌, ◌%◌, ◌≤◌, ◌<◌}
use native.Mathlib.Nat.{add-mul, one-mul}
use native.Mathlib.Omega.{arith}
use lib.ListN.{length, get_or, take, drop, length-take, length-drop}
use lib.Seq.{get_or-take, get_or-drop}
use Rattle.std.specs.Prelude.{Option, Some, None}
use Rattle.std.specs.Borrow.{Bor}
use Rattle.std.specs.Bool.{then_some}
use Rattle.plane.specs.Plane.{table, index_of}
use Rattle.plane.specs.declared.size.Size.{Size}
use Rattle.plane.specs.Search.{some_below}
use Rattle.plane.specs.Mask.{is_on}
use Rattle.plane.proofs.Plane.{row_in, pixel-in, row_of, column-of, table-length, table_is, plane-same, plane-length, plane-index}
use Rattle.plane.proofs.Search.{some_is, none_is}
use Rattle.plane.proofs.Mask.{index_on, row_on}
use Rattle.nearest.specs.Nearest.{nearest}
use Rattle.nearest.specs.steps.Indices.{indices_plane}
use Rattle.nearest.proofs.Laws.{nearest-some, nearest-none}
use Rattle.nearest.proofs.Indexed.{index-inside}
use Rattle.geometry.specs.Fill.{source_of, filled_colours}
use Rattle.geometry.specs.steps.Source.{source_at, colours_from, Reads}

-- the colour of pixel i, as a row of three
unfoldable pub colour_row : List ℕ → Size → Option (Bor (List ℕ)) → ℕ → List ℕ
colour_row colours size indices i = table (λ (c : ℕ). get_or colours (3 * source_at indices ((size.h - 1) * size.w) i + c) 0) 0 3

module _ (colours : List ℕ) (size : Size) (indices : Option (Bor (List ℕ))) (i : ℕ) where
  pub colour-keeps : length (colour_row colours size indices i) ≡ 3
  unfolding colour_row
  colour-keeps = table-length _ 0 3

  pub colour-is : (s : ℕ) → s ≡ source_at indices ((size.h - 1) * size.w) i → 3 * s + 3 ≤ length colours
      → take 3 (drop (3 * s) colours) ≡ colour_row colours size indices i
  unfolding colour_row
  colour-is s e l =
      table_is _ 3 (take 3 (drop (3 * s) colours)) 0 (simp (length-take, length-drop) (omega arith))
      (λ k g. get_or-take 3 (drop (3 * s) colours) k 0 g ∙ get_or-drop (3 * s) colours k 0 ∙ ap (λ (n : ℕ). get_or colours (3 * n + k) 0) e)

-- the first pixel of the last row
pub last_row : (h w : ℕ) → 1 ≤ h → (h - 1) * w ≡ h * w - w
last_row h w l =
    let e : h ≡ (h - 1) + 1 = omega arith in
    let m : h * w ≡ (h - 1) * w + w = ap (λ (k : ℕ). k * w) e ∙ add-mul (h - 1) 1 w ∙ ap (λ (k : ℕ). (h - 1) * w + k) (one-mul w) in
    omega arith

-- the pixel that is read lies in the picture
pub source_in : {colours out : List ℕ} (size : Size) (indices : Option (Bor (List ℕ))) (i : ℕ) → Reads colours size indices out
    → i < size.h * size.w → source_at indices ((size.h - 1) * size.w) i < size.h * size.w
source_in size (Some plane) i r l = (r.inside i l plane refl).1
source_in size None i r l =
    let s = size.sides in
    let e = last_row size.h size.w s.some_rows in
    let r = row_in (size.h - 1) size.h size.w (omega (arith, s.some_rows)) in
    omega (arith, s.some_columns)

-- ---- from the plane of indices to the definition

source-of : (mask : List ℕ) (h w y x : ℕ) (r : option.Option (ℕ × ℕ)) → nearest mask h w y x ≡ r → y < h → x < w
    → cond (some_below (h * w) (is_on mask)) (index_of w r) ((h - 1) * w) ≡ source_of h w r
unfolding index_of source_of
source-of mask h w y x none e a b = rw (none_is (is_on mask) (h * w) (λ i l. off i l))
  where
    off : (i : ℕ) → i < h * w → is_on mask i ≡ false
    off i l =
        sym (index_on mask w i) ∙ nearest-none mask h w y x e (i / w) (i % w) (row_of i h w (omega arith) l) (column-of i w (omega arith))
source-of mask h w y x (some q) e a b =
    let n = nearest-some mask h w y x q.0 q.1 e in
    let inside = pixel-in q.1 q.0 h w n.row_inside n.column_inside in
    rw (some_is (is_on mask) (h * w) (q.1 * w + q.0) inside (sym (row_on mask w q.1 q.0) ∙ n.pixel_on))

module _ (mask : List ℕ) (h w : ℕ) (wide : 0 < w) (plane : List ℕ) (e : plane ≡ indices_plane mask h w) where
  named_index : (i : ℕ) → i < h * w → get_or plane i 0 ≡ index_of w (nearest mask h w (i / w) (i % w))
  unfolding indices_plane
  named_index i l =
      ap (λ (p : List ℕ). get_or p i 0) e ∙ plane-index h w (λ (y x : ℕ). index_of w (nearest mask h w y x)) i 0 wide l

  -- the indices are those of pixels
  pub named_inside : (i : ℕ) → i < h * w → get_or plane i 0 < h * w
  named_inside i l = rw (named_index i l) (index-inside mask h w (i / w) (i % w) (nearest mask h w (i / w) (i % w)) (omega arith) refl)

-- a plane of indices that is there where something is on, or else none
is-named : (b : Bool) (plane other : Bor (List ℕ)) (o : Option (Bor (List ℕ))) → o ≡ then_some b plane → o ≡ Some other → plane ≡ other
is-named true plane other o e f = cc
is-named false plane other o e f = cc

pub named_are : (mask : List ℕ) (size : Size) (b : Bool) (plane other : Bor (List ℕ)) (o : Option (Bor (List ℕ))) → o ≡ then_some b plane
    → plane.now ≡ indices_plane mask size.h size.w → (i : ℕ) → i < size.h * size.w → o ≡ Some other
    → (i < length other.now) × (get_or other.now i 0 < size.h * size.w)
unfolding indices_plane
named_are mask size b plane other o e f i l g =
    let q : other.now ≡ indices_plane mask size.h size.w = ap (λ (p : Bor (List ℕ)). p.now) (sym (is-named b plane other o e g)) ∙ f in
    (rw (q, plane-length size.h size.w (λ (y x : ℕ). index_of size.w (nearest mask size.h size.w y x))) l, named_inside mask size.h size.w size.sides.some_columns other.now q i l)

source-named : (b : Bool) (plane : Bor (List ℕ)) (last i : ℕ) → source_at (then_some b plane) last i ≡ cond b (get_or plane.now i 0) last
source-named true plane last i = refl
source-named false plane last i = refl

-- the loop's colours are those of the definition
pub filled_is : (colours mask : List ℕ) (size : Size) (plane : Bor (List ℕ)) → plane.now ≡ indices_plane mask size.h size.w
    → colours_from colours size (then_some (some_below (size.h * size.w) (is_on mask)) plane) ≡ filled_colours colours mask size.h size.w
unfolding colours_from filled_colours
filled_is colours mask size plane e =
    let h = size.h in
    let w = size.w in
    let b = some_below (h * w) (is_on mask) in
    let wide = size.sides.some_columns in
    plane-same (h * w) 3 _ _ 0
    (λ i c l m.
    ap (λ (n : ℕ). get_or colours (3 * n + c) 0)
    (source-named b plane ((h - 1) * w) i
    ∙ ap (λ (n : ℕ). cond b n ((h - 1) * w)) (named_index mask h w wide plane.now e i l)
    ∙ source-of mask h w (i / w) (i % w) (nearest mask h w (i / w) (i % w)) refl (row_of i h w wide l) (column-of i w wide)))
