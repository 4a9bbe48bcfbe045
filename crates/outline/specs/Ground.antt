-- The ground: what of the picture is plain card, reached from the border.
-- Assumes nothing.
use Rattle.std.specs.Prelude.{ℕ, ◌+◌, ◌*◌, Bool, cond, ◌&&◌, List, [], ◌∷◌, eqb, leb, length, Float}
use Rattle.plane.specs.Plane.{bit, table}
use Rattle.plane.specs.Search.{some_below}
use Rattle.plane.specs.Mask.{is_on, some_off}
use Rattle.labels.specs.Labels.{first_pixel}
use Rattle.colour.specs.declared.Rgb.{Rgb}
use Rattle.colour.specs.Colour.{close_to}
use Rattle.outline.specs.Border.{border_list, on_border, colour_at}

-- close (R19): the pixel's difference from the reference is at most the tolerance
unfoldable pub is_close : List Float → Rgb → Float → ℕ → Bool
is_close colours reference tolerance i = close_to tolerance reference (colour_at colours i)

-- the close pixels as a mask (R19)
unfoldable pub close_plane : List Float → ℕ → ℕ → Rgb → Float → List ℕ
close_plane colours h w reference tolerance = table (λ (i : ℕ). bit (is_close colours reference tolerance i)) 0 (h * w)

-- the ground (R20): the close pixels that steps over close pixels join to a close border pixel.
-- Two close pixels are joined where the parts that they belong to have the same first pixel
unfoldable pub is_ground : List ℕ → ℕ → ℕ → ℕ → Bool
is_ground close h w i =
    is_on close i
    && some_below (h * w) (λ (j : ℕ). on_border h w j && is_on close j && eqb (first_pixel close h w j) (first_pixel close h w i))

-- the ground as a mask (R20)
unfoldable pub ground_from : List ℕ → ℕ → ℕ → List ℕ
ground_from close h w = table (λ (i : ℕ). bit (is_ground close h w i)) 0 (h * w)

-- the ground of a picture for a reference colour, found or not (R20)
unfoldable pub ground_of : List Float → ℕ → ℕ → Rgb → Float → List ℕ
ground_of colours h w reference tolerance = ground_from (close_plane colours h w reference tolerance) h w

-- how many entries of a list of pixels are on (R21)
unfoldable pub count_on : List ℕ → List ℕ → ℕ
count_on mask [] = 0
count_on mask (i ∷ l) = cond (is_on mask i) 1 0 + count_on mask l

-- found (R21): at least nine tenths of the border list are close, and some pixel is not ground
unfoldable pub found_from : List ℕ → ℕ → ℕ → Bool
found_from close h w = leb (9 * length (border_list h w)) (10 * count_on close (border_list h w)) && some_off (ground_from close h w) (h * w)

-- the same of a picture for a reference colour (R21)
unfoldable pub is_found : List Float → ℕ → ℕ → Rgb → Float → Bool
is_found colours h w reference tolerance = found_from (close_plane colours h w reference tolerance) h w

-- the plane that the search of the ground writes (R22): the ground where it is found, else all 0
unfoldable pub ground_plane : List Float → ℕ → ℕ → Rgb → Float → List ℕ
ground_plane colours h w reference tolerance =
    cond (is_found colours h w reference tolerance) (ground_of colours h w reference tolerance) (table (λ (i : ℕ). 0) 0 (h * w))
