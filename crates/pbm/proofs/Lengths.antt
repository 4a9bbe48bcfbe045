-- How long the pieces of the text are at most.
-- Assumes nothing.
use mathlib.Core.Path.{◌≡◌}
use mathlib.Core.Bool.{Bool, true, false, cond}
use mathlib.Core.List.{List, [], ◌++◌}
use Prim.Native.Nat.{ℕ, zero, suc, ◌+◌, ◌*◌, ◌%◌, ◌≤◌, ◌<◌}
use native.Mathlib.Numerals.{add-one}
use native.Mathlib.Omega.{arith}
use lib.ListN.{length, length-append}
use Rattle.plane.specs.declared.Box.{Box}
use Rattle.text.specs.Decimal.{decimal}
use Rattle.text.proofs.Decimal.{decimal-short}
use Rattle.pbm.specs.Text.{newline, ends_line, pixel_text, pixels_text, pair_text, keyed_end, crop_lines, size_line, mask_text, refusal_text}

pub pair-long : (a b : ℕ) → length (pair_text a b) ≡ length (decimal a) + 1 + length (decimal b)
unfolding pair_text
pair-long a b = simp length-append (omega arith)

pub crop-long : (b : Box) (keyed : Bool)
    → length (crop_lines b keyed) ≡ length (pair_text b.y0 b.y1) + length (pair_text b.x0 b.x1) + 20
unfolding crop_lines keyed_end
crop-long b keyed = simp length-append (omega arith)

pub size-long : (h w : ℕ) → length (size_line h w) ≡ length (pair_text w h) + 1
unfolding size_line
size-long h w = simp length-append (omega arith)

-- numbers below 10000 have at most four digits
four : (n : ℕ) → n < 10000 → length (decimal n) ≤ 4
four n l = decimal-short n 3 l

-- a box of which each number is below 10000
pub record Small (b : Box) : Type 0 where
  pub y0_small : b.y0 < 10000
  pub y1_small : b.y1 < 10000
  pub x0_small : b.x0 < 10000
  pub x1_small : b.x1 < 10000

pub crop-short : (b : Box) (keyed : Bool) → Small b → length (crop_lines b keyed) ≤ 38
crop-short b keyed s =
    omega (
      arith,
      crop-long b keyed,
      pair-long b.y0 b.y1,
      pair-long b.x0 b.x1,
      four b.y0 s.y0_small,
      four b.y1 s.y1_small,
      four b.x0 s.x0_small,
      four b.x1 s.x1_small,
    )

pub size-short : (h w : ℕ) → h < 10000 → w < 10000 → length (size_line h w) ≤ 10
size-short h w a b = omega (arith, size-long h w, pair-long w h, four h a, four w b)

module _ (mask : List ℕ) (w : ℕ) where
  pixel-short : (i : ℕ) → length (pixel_text mask w i) ≤ 2
  unfolding pixel_text
  pixel-short i = short (ends_line w (i % w))
    where
      short : (t : Bool) → suc (length (cond t newline [])) ≤ 2
      short true = omega arith
      short false = omega arith

  pub pixels-more : (n : ℕ) → pixels_text mask w n ++ pixel_text mask w n ≡ pixels_text mask w (n + 1)
  unfolding pixels_text
  pixels-more n = rw (add-one n)

  pub pixels-short : (n : ℕ) → length (pixels_text mask w n) ≤ 2 * n
  unfolding pixels_text
  pixels-short zero = omega arith
  pixels-short (suc n) = rw (length-append (pixels_text mask w n) (pixel_text mask w n)) (omega (arith, pixel-short n, pixels-short n))

-- the whole text, in its parts
pub mask_long : (mask : List ℕ) (h w : ℕ) (crop : Box) (keyed : Bool)
    → length (mask_text mask h w crop keyed) ≤ length (crop_lines crop keyed) + length (size_line h w) + 2 * (h * w)
unfolding mask_text
mask_long mask h w crop keyed = simp length-append (omega (arith, pixels-short mask w (h * w)))

pub refusal-long : (n : ℕ) → length (refusal_text n) ≡ 9 + length (decimal n)
unfolding refusal_text
refusal-long n = simp length-append (omega arith)

pub refusal-short : (n : ℕ) → n < 10000 → length (refusal_text n) ≤ 13
refusal-short n l = omega (arith, refusal-long n, four n l)
