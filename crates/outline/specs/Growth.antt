-- Growth: passes that move the background into the object's anti-aliased rim.
-- Assumes nothing.
use Rattle.std.specs.Prelude.{ℕ, zero, suc, ◌*◌, ◌/◌, ◌%◌, Bool, false, cond, not, ◌&&◌, ◌||◌, List, leb, Float}
use Rattle.std.proofs.Math.Option.{Option, none, some}
use Rattle.plane.specs.Plane.{index_of}
use Rattle.plane.specs.Search.{some_below}
use Rattle.plane.specs.Mask.{is_on, mask_of}
use Rattle.squares.specs.Squares.{in_square}
use Rattle.nearest.specs.Nearest.{nearest, distance_to}
use Rattle.colour.specs.declared.Rgb.{Rgb}
use Rattle.colour.specs.Colour.{difference_of}
use Rattle.colour.specs.Join.{joins_of}
use Rattle.outline.specs.Border.{colour_at}

-- whether some background pixel is within k of pixel i (R4)
unfoldable pub near_ground : List ℕ → ℕ → ℕ → ℕ → ℕ → Bool
near_ground back h w k i = in_square back h w k (i / w) (i % w)

-- edge (R24): not background, within 1 of it
unfoldable pub is_edge : List ℕ → ℕ → ℕ → ℕ → Bool
is_edge back h w i = not (is_on back i) && near_ground back h w 1 i

-- shallow (R24): neither background nor edge
unfoldable pub is_shallow : List ℕ → ℕ → ℕ → ℕ → Bool
is_shallow back h w i = not (is_on back i) && not (near_ground back h w 1 i)

-- how far deep pixels are from the background, and the squared distance up to which one gives the body colour (R25, R26)
abbrev pub deep_reach : ℕ
deep_reach = 4

abbrev pub body_reach : ℕ
body_reach = 36

-- deep (R25): not within 4 of the background
unfoldable pub is_deep : List ℕ → ℕ → ℕ → ℕ → Bool
is_deep back h w i = not (near_ground back h w deep_reach i)

-- whether there is an answer, near enough to (y, x) (R26)
unfoldable pub is_reach : ℕ → ℕ → Option (ℕ × ℕ) → Bool
is_reach y x none = false
is_reach y x (some q) = leb (distance_to y x (some q)) body_reach

-- the body pixel of pixel i (R26): its nearest deep pixel if that is near enough, else its nearest shallow pixel
unfoldable pub body_from : List ℕ → List ℕ → ℕ → ℕ → ℕ → ℕ
body_from deep shallow h w i =
    cond (is_reach (i / w) (i % w) (nearest deep h w (i / w) (i % w)))
    (index_of w (nearest deep h w (i / w) (i % w)))
    (index_of w (nearest shallow h w (i / w) (i % w)))

-- whether pixel i joins the background: it is edge, and less than half as far from the reference as its body colour is (R27)
unfoldable pub joins_from : List Float → Rgb → List ℕ → List ℕ → List ℕ → ℕ → ℕ → ℕ → Bool
joins_from colours reference back deep shallow h w i =
    is_edge back h w i
    && joins_of (difference_of (colour_at colours (body_from deep shallow h w i)) reference) (difference_of (colour_at colours i) reference)

-- the same where deep and shallow are those of the background; without a shallow pixel nothing joins (R28)
unfoldable pub is_joining : List Float → Rgb → List ℕ → ℕ → ℕ → ℕ → Bool
is_joining colours reference back h w i =
    some_below (h * w) (is_shallow back h w)
    && joins_from colours reference back (mask_of (h * w) (is_deep back h w)) (mask_of (h * w) (is_shallow back h w)) h w i

-- the background after one pass (R23): all joins take effect together
unfoldable pub pass_of : List Float → Rgb → List ℕ → ℕ → ℕ → List ℕ
pass_of colours reference back h w = mask_of (h * w) (λ (i : ℕ). is_on back i || is_joining colours reference back h w i)

-- the background after at most p passes (R28, R29): a pass without a join ends growth
unfoldable pub growth_of : List Float → Rgb → ℕ → ℕ → ℕ → List ℕ → List ℕ
growth_of colours reference h w zero back = mask_of (h * w) (is_on back)
growth_of colours reference h w (suc p) back =
    cond (some_below (h * w) (is_joining colours reference back h w))
    (growth_of colours reference h w p (pass_of colours reference back h w))
    (mask_of (h * w) (is_on back))
