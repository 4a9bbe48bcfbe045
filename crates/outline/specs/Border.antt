-- The border of a picture, its colours, and the reference colour: the one that the border's list gives, or a given one.
-- Assumes nothing.
use Rattle.std.specs.Prelude.{ℕ, ◌+◌, ◌*◌, ◌-◌, Bool, false, ◌||◌, List, [], ◌∷◌, ◌++◌, map, eqb, get_or, Float}
use Rattle.std.specs.Float.{nan}
use Rattle.plane.specs.Plane.{table}
use Rattle.colour.specs.declared.Rgb.{Rgb}
use Rattle.median.specs.Median.{median_of}
use Rattle.card.specs.Card.{Card}
use Rattle.card.specs.Card.{Border, Given, Unreadable}

-- the pixels of row y (R15)
unfoldable pub row_pixels : ℕ → ℕ → List ℕ
row_pixels w y = table (λ (x : ℕ). y * w + x) 0 w

-- the pixels of column x in rows 1 to h - 2 (R15)
unfoldable pub inner_column : ℕ → ℕ → ℕ → List ℕ
inner_column h w x = table (λ (y : ℕ). y * w + x) 1 (h - 2)

-- the border list (R15): row 0, row h - 1, column 0 and column w - 1 of the rows between, repeats included
unfoldable pub border_list : ℕ → ℕ → List ℕ
border_list h w = row_pixels w 0 ++ row_pixels w (h - 1) ++ inner_column h w 0 ++ inner_column h w (w - 1)

-- whether a number is in a list (R16)
unfoldable pub listed : ℕ → List ℕ → Bool
listed i [] = false
listed i (j ∷ l) = eqb i j || listed i l

-- the border (R16): the pixels of the list
unfoldable pub on_border : ℕ → ℕ → ℕ → Bool
on_border h w i = listed i (border_list h w)

-- channel c of pixel i stands at 3 * i + c (R2)
unfoldable pub channel_at : List Float → ℕ → ℕ → Float
channel_at colours c i = get_or colours (3 * i + c) nan

-- the colour of pixel i (R2)
unfoldable pub colour_at : List Float → ℕ → Rgb
colour_at colours i = record { r = channel_at colours 0 i; g = channel_at colours 1 i; b = channel_at colours 2 i }

-- the reference (R17): of each channel the median of the border list's values
unfoldable pub reference_channel : List Float → ℕ → ℕ → ℕ → Float
reference_channel colours h w c = median_of (map (channel_at colours c) (border_list h w))

unfoldable pub reference_of : List Float → ℕ → ℕ → Rgb
reference_of colours h w =
    record { r = reference_channel colours h w 0; g = reference_channel colours h w 1; b = reference_channel colours h w 2 }

-- the reference on a card (R83): a colour that is given takes the place of the border's. With a text that names no colour nothing is
-- cut, so its line has no part in any result
abbrev pub reference_on : Card → List Float → ℕ → ℕ → Rgb
reference_on (Given colour) colours h w = colour
reference_on Border colours h w = reference_of colours h w
reference_on Unreadable colours h w = reference_of colours h w
