-- A look at the coming pass: the background that one more pass of growth would make, and how many pixels it would take off the object.
-- Assumes nothing.
use Rattle.std.specs.Prelude.{ℕ, ◌*◌, not, ◌&&◌, List, Float}
use Rattle.plane.specs.Search.{count_below}
use Rattle.plane.specs.Mask.{is_on}
use Rattle.colour.specs.declared.Rgb.{Rgb}
use Rattle.outline.specs.Growth.{growth_of}

-- the would-be background (R89): growth with one pass
unfoldable pub next_background : List Float → Rgb → ℕ → ℕ → List ℕ → List ℕ
next_background colours reference h w back = growth_of colours reference h w 1 back

-- of n pixels, how many are on in the second mask and off in the first (R90)
unfoldable pub newly_on : ℕ → List ℕ → List ℕ → ℕ
newly_on n before after = count_below n (λ (i : ℕ). is_on after i && not (is_on before i))

-- the number of joins (R90): of the pixels on in the would-be background and off in the background
unfoldable pub joins_in : List Float → Rgb → ℕ → ℕ → List ℕ → ℕ
joins_in colours reference h w back = newly_on (h * w) back (next_background colours reference h w back)
