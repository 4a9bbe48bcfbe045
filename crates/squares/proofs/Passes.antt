-- Laws of the two passes one after the other, and of the buffer between them.
-- Assumes nothing.
use mathlib.Core.Path.{◌≡◌, sym, ap, ◌∙◌}
use mathlib.Core.Bool.{Bool, true, false, ◌&&◌}
use mathlib.Core.List.{List, ◌++◌}
use mathlib.Core.Logic.{◌⊎◌, inl, inr, ⊎_elim}
use Prim.Native.Nat.{ℕ, ◌+◌, ◌*◌, ◌-◌, ◌/◌, ◌%◌, ◌≤◌, ◌<◌}
use native.Mathlib.Omega.{arith}
use lib.Dec.{leb}
use lib.ListN.{length, get_or, drop, get_or-append}
use lib.Seq.{get_or-append-add, get_or-drop}
use Rattle.plane.specs.Search.{some_below}
use Rattle.plane.specs.Plane.{bit, on_at, apart, within, plane_of}
use Rattle.plane.proofs.Search.{some_same, none_is, and_no}
use Rattle.std.proofs.lemmas.Bool.{cases_lt}
use Rattle.plane.proofs.Plane.{pixel-in, on_bit, plane-length, plane-at, plane-index, plane-same, bit-most}
use Rattle.counts.specs.steps.Window.{in_window}
use Rattle.row_counts.specs.steps.Rows.{dilated_rows}
use Rattle.column_counts.specs.steps.Columns.{on_down, column_byte, dilated_columns}
use Rattle.std.proofs.Math.Bool.{and-true}
use Rattle.squares.specs.Squares.{reach, in_square, squares_plane}
use Rattle.squares.specs.steps.Radius.{radius_of}
use Rattle.squares.specs.Work.{BitOrOld}
use Rattle.squares.proofs.Laws.{square-radius}

-- a test beside a search goes into it
spread : (n : ℕ) (p q : ℕ → Bool) (t : Bool) → some_below n (λ (i : ℕ). p i && q i) && t ≡ some_below n (λ (i : ℕ). p i && (t && q i))
spread n p q true = and-true (some_below n (λ (i : ℕ). p i && q i))
spread n p q false =
    and_no (some_below n (λ (i : ℕ). p i && q i)) ∙ sym (none_is (λ (i : ℕ). p i && false) n (λ i l. and_no (p i)))

module _ (mask rest : List ℕ) (h w k : ℕ) where
  -- the plane between the passes, and its byte for a pixel
  abbrev pub between : List ℕ
  between = dilated_rows mask h w k ++ rest

  abbrev byte_of : ℕ → ℕ → ℕ
  byte_of y x = bit (in_window w k x (on_at mask w y))

  in-front : (i : ℕ) → i < h * w → get_or between i 0 ≡ get_or (plane_of h w byte_of) i 0
  unfolding dilated_rows
  in-front i l = get_or-append (plane_of h w byte_of) rest 0 i (omega (arith, plane-length h w byte_of))

  behind : (i : ℕ) → get_or between (h * w + i) 0 ≡ get_or rest i 0
  unfolding dilated_rows
  behind i =
      let long = plane-length h w byte_of in
      ap (λ (n : ℕ). get_or between (n + i) 0) (sym long) ∙ get_or-append-add (plane_of h w byte_of) rest i 0

  between-bits : {plane : List ℕ} → plane ≡ between → 0 < w → (i : ℕ) → i < h * w → get_or plane i 0 ≤ 1
  between-bits q p i l =
      let e = ap (λ (u : List ℕ). get_or u i 0) q ∙ in-front i l ∙ plane-index h w byte_of i 0 p l in
      omega (arith, bit-most (in_window w k (i % w) (on_at mask w (i / w))))

  -- a row of windows of columns is a square
  two-passes : (y x : ℕ) → y < h → x < w → in_window h k y (on_down between w x) ≡ in_square mask h w k y x
  unfolding in_window in_square within on_at
  two-passes y x a b =
      some_same (λ (j : ℕ). on_down between w x j && leb (apart y j) k)
      (λ (j : ℕ). some_below w (λ (i : ℕ). on_at mask w j i && within k y x j i)) h
      (λ j l.
      let byte : get_or between (j * w + x) 0 ≡ byte_of j x = in-front (j * w + x) (pixel-in j x h w l b) ∙ plane-at h w byte_of j x 0 l b in
      rw (byte, on_bit) (spread w (on_at mask w j) (λ (i : ℕ). leb (apart x i) k) (leb (apart y j) k)))

-- with the k that is used they give the squares
pub passes-are : (mask rest : List ℕ) (h w n : ℕ) {k : ℕ} {plane out : List ℕ} → k ≡ radius_of h w n → plane ≡ between mask rest h w k
    → out ≡ dilated_columns plane h w k → out ≡ squares_plane mask h w n
unfolding dilated_columns squares_plane
passes-are mask rest h w n {k} {plane} {out} a b c =
    let two : (y x : ℕ) → y < h → x < w → column_byte plane h w k y x ≡ bit (in_square mask h w (reach h w n) y x) =
    λ y x l m. rw (b, a) (ap bit (two-passes mask rest h w (radius_of h w n) y x l m ∙ square-radius mask h w n y x l m)) in
    c ∙ plane-same h w (column_byte plane h w k) (λ (y x : ℕ). bit (in_square mask h w (reach h w n) y x)) 0 two

-- and every place of the buffer between them holds afterwards 0, 1 or its old number
pub work-kept : (mask : List ℕ) (h w k : ℕ) {old new : List ℕ} → new ≡ between mask (drop (h * w) old) h w k → length new ≡ length old → 0 < w
    → BitOrOld old new
work-kept mask h w k {old} {new} e size p = record {
  size = size;
  each =
      λ i.
      ⊎_elim {C = (get_or new i 0 ≤ 1) ⊎ (get_or new i 0 ≡ get_or old i 0)}
      (λ (l : i < h * w). inl (between-bits mask (drop (h * w) old) h w k e p i l))
      (λ (l : h * w ≤ i).
      let back : h * w + (i - h * w) ≡ i = omega arith in
      let q =
      ap (λ (u : List ℕ). get_or u (h * w + (i - h * w)) 0) e
      ∙ behind mask (drop (h * w) old) h w k (i - h * w)
      ∙ get_or-drop (h * w) old (i - h * w) 0 in
      inr (rw back at q))
      (cases_lt i (h * w));
}
