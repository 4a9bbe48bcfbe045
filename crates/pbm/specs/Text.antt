-- What cutcard prints, byte for byte.
-- Assumes nothing.
use Rattle.std.specs.Prelude.{ℕ, zero, suc, ◌+◌, ◌*◌, ◌%◌, Bool, cond, ◌||◌, List, [], ◌∷◌, ◌++◌, eqb}
use Rattle.plane.specs.declared.Box.{Box}
use Rattle.plane.specs.Mask.{is_on}
use Rattle.text.specs.Decimal.{decimal}

-- "P1\n# crop ", " keyed ", "refused " (R41, R42)
abbrev pub crop_text : List ℕ
crop_text = 80 ∷ 49 ∷ 10 ∷ 35 ∷ 32 ∷ 99 ∷ 114 ∷ 111 ∷ 112 ∷ 32 ∷ []

abbrev pub keyed_text : List ℕ
keyed_text = 32 ∷ 107 ∷ 101 ∷ 121 ∷ 101 ∷ 100 ∷ 32 ∷ []

abbrev pub refused_text : List ℕ
refused_text = 114 ∷ 101 ∷ 102 ∷ 117 ∷ 115 ∷ 101 ∷ 100 ∷ 32 ∷ []

abbrev pub space : List ℕ
space = 32 ∷ []

abbrev pub newline : List ℕ
newline = 10 ∷ []

-- the digit '0' or '1' for no or yes (R41)
unfoldable pub bit_byte : Bool → ℕ
bit_byte t = cond t 49 48

-- the most digits in a line (R41)
abbrev pub line_length : ℕ
line_length = 70

-- whether a line ends after column x of a row of w pixels (R41)
unfoldable pub ends_line : ℕ → ℕ → Bool
ends_line w x = eqb ((x + 1) % line_length) 0 || eqb (x + 1) w

-- pixel i: its digit, 1 for on, and the newline after it where a line ends (R41)
unfoldable pub pixel_text : List ℕ → ℕ → ℕ → List ℕ
pixel_text mask w i = bit_byte (is_on mask i) ∷ cond (ends_line w (i % w)) newline []

-- the first n pixels in raster order (R41)
unfoldable pub pixels_text : List ℕ → ℕ → ℕ → List ℕ
pixels_text mask w zero = []
pixels_text mask w (suc n) = pixels_text mask w n ++ pixel_text mask w n

-- two numbers with a space between them (R41)
unfoldable pub pair_text : ℕ → ℕ → List ℕ
pair_text a b = decimal a ++ space ++ decimal b

-- keyed k and the line's end (R41)
unfoldable pub keyed_end : Bool → List ℕ
keyed_end keyed = keyed_text ++ (bit_byte keyed ∷ newline)

-- P1; # crop y0 y1 x0 x1 keyed k (R41)
unfoldable pub crop_lines : Box → Bool → List ℕ
crop_lines crop keyed = crop_text ++ pair_text crop.y0 crop.y1 ++ space ++ pair_text crop.x0 crop.x1 ++ keyed_end keyed

-- width and height (R41)
unfoldable pub size_line : ℕ → ℕ → List ℕ
size_line h w = pair_text w h ++ newline

-- a mask with its crop box and keyed flag (R41)
unfoldable pub mask_text : List ℕ → ℕ → ℕ → Box → Bool → List ℕ
mask_text mask h w crop keyed = crop_lines crop keyed ++ size_line h w ++ pixels_text mask w (h * w)

-- refused, a space, the number and a newline (R42)
unfoldable pub refusal_text : ℕ → List ℕ
refusal_text number = refused_text ++ decimal number ++ newline
