-- The steps of a pass, which the contracts of its parts cite. A pass writes a byte for each pixel, its mark: first 1 where the pixel
-- may join; then 0 or 1 where that is decided and 2 where it waits for its nearest shallow pixel; in the end 1 where it joins.
-- Assumes nothing.
use Rattle.std.specs.Prelude.{ℕ, ◌+◌, ◌*◌, ◌≤◌, ◌/◌, ◌%◌, ◌≡◌, Bool, cond, not, ◌&&◌, List, eqb, Float, length, get_or, Option, Some, None}
use Rattle.std.specs.Option.{option_map_or}
use Rattle.plane.specs.Plane.{bit, table}
use Rattle.plane.specs.Search.{some_below}
use Rattle.plane.specs.Mask.{is_on, mask_of}
use Rattle.colour.specs.declared.Rgb.{Rgb}
use Rattle.colour.specs.Colour.{difference_of}
use Rattle.colour.specs.Join.{joins_of}
use Rattle.outline.specs.Border.{colour_at}
use Rattle.outline.specs.Growth.{is_edge, is_shallow, is_deep, body_from}
use Rattle.window.specs.steps.Window.{near_pixel}
use Rattle.growth.specs.declared.deep.Deep.{Deep}

-- whether pixel i joins if its body colour is that of pixel b
unfoldable pub joins_with : List Float → Rgb → ℕ → ℕ → Bool
joins_with colours reference b i = joins_of (difference_of (colour_at colours b) reference) (difference_of (colour_at colours i) reference)

-- the mark of a pixel that waits
abbrev pub waits : ℕ
waits = 2

-- whether a pixel is neither background nor shallow
unfoldable pub edge_test : List ℕ → List ℕ → ℕ → Bool
edge_test back shallow i = not (is_on back i) && not (is_on shallow i)

-- the first mark: the edge pixels, if there is a shallow pixel
unfoldable pub edge_mark : List ℕ → ℕ → ℕ → ℕ → ℕ
edge_mark back h w i = bit (some_below (h * w) (is_shallow back h w) && is_edge back h w i)

-- the nearest deep pixel of pixel i, where there is one and it is near enough
abbrev pub near_deep : Option Deep → ℕ → Option ℕ
near_deep None i = None
near_deep (Some d) i = near_pixel d.mask.pixels.now d.mask.size.h d.mask.size.w (i / d.mask.size.w) (i % d.mask.size.w)

-- the mark after the search, in which a pixel has a deep pixel that is near enough or none: decided where it has
unfoldable pub near_mark : List Float → Rgb → (ℕ → Option ℕ) → ℕ → ℕ
near_mark colours reference near i = option_map_or (λ (b : ℕ). bit (joins_with colours reference b i)) (near i) waits

-- the same where only the marked pixels are searched
unfoldable pub search_mark : List Float → Rgb → (ℕ → Option ℕ) → List ℕ → ℕ → ℕ
search_mark colours reference near marks i = cond (is_on marks i) (near_mark colours reference near i) 0

-- the last mark: a pixel that waits is decided by its nearest shallow pixel
unfoldable pub last_mark : List Float → Rgb → List ℕ → List ℕ → ℕ → ℕ
last_mark colours reference nearest marks i =
    cond (eqb (get_or marks i 0) waits) (bit (joins_with colours reference (get_or nearest i 0) i)) (get_or marks i 0)

-- the mark after both: the marked pixels that join
unfoldable pub decided_mark : List Float → Rgb → List ℕ → List ℕ → ℕ → ℕ → List ℕ → ℕ → ℕ
decided_mark colours reference deep shallow h w marks i =
    cond (is_on marks i) (bit (joins_with colours reference (body_from deep shallow h w i) i)) 0

-- planes of the picture's size to work in, and room for the nearest pixels
pub record Planes (h w : ℕ) (nearest shallow deep marks back : List ℕ) : Type 0 where
  pub nearest_long : h * w + 3 * w ≤ length nearest
  pub shallow_long : length shallow ≡ h * w
  pub deep_long : length deep ≡ h * w
  pub marks_long : length marks ≡ h * w
  pub back_long : length back ≡ h * w

-- the shallow plane, the deep plane and the edge marks of a background
pub record Laid (back : List ℕ) (h w : ℕ) (shallow deep marks : List ℕ) : Type 0 where
  pub shallow_is : shallow ≡ mask_of (h * w) (is_shallow back h w)
  pub deep_is : deep ≡ mask_of (h * w) (is_deep back h w)
  pub marks_are : marks ≡ table (edge_mark back h w) 0 (h * w)

-- what growth is given
pub record Room (colours : List Float) (h w : ℕ) (nearest shallow deep marks back : List ℕ) : Type 0 where
  pub colours_long : length colours ≡ 3 * (h * w)
  pub back_long : length back ≡ h * w
  pub nearest_long : h * w + 3 * w ≤ length nearest
  pub shallow_long : h * w ≤ length shallow
  pub deep_long : h * w ≤ length deep
  pub marks_long : h * w ≤ length marks
