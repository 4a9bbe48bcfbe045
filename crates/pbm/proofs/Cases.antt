-- The lines of two rows of 71 pixels, of 70 and of 1, and a refusal, computed from the definitions.
-- Assumes nothing.
use mathlib.Core.Bool.{Bool, true, false, ◌&&◌}
use mathlib.Core.List.{List, [], ◌∷◌, ◌++◌}
use Prim.Native.Nat.{ℕ}
use lib.Dec.{T, eqb}
use lib.ListN.{replicate}
use Rattle.plane.specs.Plane.{on}
use Rattle.plane.specs.Mask.{is_on}
use Rattle.text.specs.Decimal.{decimal_upto, decimal}
use Rattle.pbm.specs.Text.{bit_byte, ends_line, pixel_text, pixels_text, refusal_text}

-- two texts are equal
same : List ℕ → List ℕ → Bool
same [] [] = true
same [] (n ∷ m) = false
same (k ∷ l) [] = false
same (k ∷ l) (n ∷ m) = eqb k n && same l m

line : List ℕ
line = replicate 70 49 ++ (10 ∷ 49 ∷ 10 ∷ [])

lines-hold : T (same (pixels_text (replicate 142 1) 71 142) (line ++ line))
unfolding same line on is_on bit_byte ends_line pixel_text pixels_text
lines-hold = tt

refusal-holds : T (same (refusal_text 10) (114 ∷ 101 ∷ 102 ∷ 117 ∷ 115 ∷ 101 ∷ 100 ∷ 32 ∷ 49 ∷ 48 ∷ 10 ∷ []))
unfolding same decimal_upto decimal refusal_text
refusal-holds = tt
