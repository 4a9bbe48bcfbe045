-- Laws of the crop box: it lies in the picture, and has every pixel of the mask.
-- Assumes nothing.
use mathlib.Core.Path.{◌≡◌, ◌∙◌}
use mathlib.Core.Bool.{Bool, true, false, ◌&&◌}
use mathlib.Core.List.{List}
use mathlib.Core.Logic.{⊎_elim}
use Prim.Native.Nat.{ℕ, ◌*◌, ◌/◌, ◌%◌, ◌<◌}
use native.Mathlib.Omega.{arith}
use lib.Ieee.{Float}
use Rattle.plane.specs.Plane.{on_at}
use Rattle.plane.specs.Mask.{is_on, some_off}
use Rattle.plane.specs.declared.Box.{Box}
use Rattle.plane.specs.Box.{box_of, whole_of}
use Rattle.plane.proofs.Search.{some-found}
use Rattle.std.proofs.lemmas.Bool.{cases_Bool}
use Rattle.plane.proofs.Plane.{row_of, column-of}
use Rattle.plane.proofs.Mask.{index_on}
use Rattle.bounds.proofs.Laws.{BoxIn, Has, box-has, box_in}
use Rattle.colour.specs.declared.Rgb.{Rgb}
use Rattle.colour.specs.declared.Settings.{Settings}
use Rattle.card.specs.Card.{Card}
use Rattle.outline.specs.Cut.{cut_mask, margin, crop_of}
use Rattle.outline.specs.Calls.{Buffers, refusal_in}
use Rattle.outline.proofs.CutLaws.{taken, mask-not-empty}

module _ (mask : List ℕ) (h w added : ℕ) where
  -- the crop box is the mask's box, or the whole picture
  crop-cases : (P : Box → Type 0) (cropping : Bool) → P (box_of mask h w added) → P (whole_of h w) → P (crop_of mask h w added cropping)
  unfolding crop_of
  crop-cases P cropping a b =
      ⊎_elim {C = P (crop_of mask h w added cropping)}
      (λ (c : cropping && some_off mask (h * w) ≡ true). rw c a)
      (λ (c : cropping && some_off mask (h * w) ≡ false). rw c b)
      (cases_Bool (cropping && some_off mask (h * w)))

  -- so it has every pixel of the mask, and is one of the picture where there is such a pixel
  pub crop-has : (cropping : Bool) (y x : ℕ) → y < h → x < w → on_at mask w y x ≡ true → Has (crop_of mask h w added cropping) y x
  unfolding whole_of
  crop-has cropping y x a b e =
      crop-cases (λ (c : Box). Has c y x) cropping (box-has mask h w added y x a b e)
      (record { from_row = omega arith; to_row = a; from_column = omega arith; to_column = b })

  pub crop-in : (cropping : Bool) (y x : ℕ) → y < h → x < w → on_at mask w y x ≡ true → BoxIn h w (crop_of mask h w added cropping)
  unfolding whole_of
  crop-in cropping y x a b e =
      crop-cases (BoxIn h w) cropping (box_in mask h w added y x a b e)
      (record { some_rows = omega arith; rows_in = omega arith; some_columns = omega arith; columns_in = omega arith })

-- the crop box of every accepted cut is one of the picture
pub cut-crop : (colours : List Float) (alpha : List ℕ) (h w : ℕ) (reference : Rgb) (card : Card) (s : Settings) (b : Buffers)
    → refusal_in colours alpha h w card s b ≡ 0 → BoxIn h w (crop_of (cut_mask colours alpha h w reference s) h w margin s.crop_to_alpha)
cut-crop colours alpha h w reference card s b e =
    let wide = (taken colours alpha h w card s b e).sides.some_columns in
    let mask = cut_mask colours alpha h w reference s in
    let f = some-found (is_on mask) (h * w) (mask-not-empty colours alpha h w reference s card b e) in
    let i = f.0 in
    crop-in mask h w margin s.crop_to_alpha (i / w) (i % w) (row_of i h w wide f.1) (column-of i w wide) (index_on mask w i ∙ f.2)
