-- Looks at the coming pass that the prover computes from the definitions (R93). All pictures are a row of greys,
-- and the reference is white.
-- Assumes nothing.
use mathlib.Core.Path.{◌≡◌, refl}
use mathlib.Core.Bool.{false}
use mathlib.Core.List.{List, [], ◌∷◌}
use Prim.Native.Nat.{ℕ}
use lib.IntN.{negsuc}
use lib.ListN.{length, replicate}
use lib.Ieee.{Float, fin, lt, le, eq, add, sub, mul, div, neg, of_int, of_bits}
use Rattle.plane.specs.Plane.{on, bit, on_at, apart, within, table, rows_upto, plane_of, index_of}
use Rattle.plane.specs.Search.{some_below, count_below}
use Rattle.plane.specs.Mask.{is_on, mask_of}
use Rattle.line.specs.Walk.{lower}
use Rattle.line.specs.Grid.{value_of, walk, upto, grid, plus}
use Rattle.nearest.specs.Nearest.{row_cost, nearest, away, distance_to}
use Rattle.squares.specs.Squares.{in_square}
use Rattle.colour.specs.declared.Rgb.{Rgb}
use Rattle.colour.specs.Number.{zero64, one64, abs_of, larger}
use Rattle.colour.specs.Colour.{difference_of}
use Rattle.colour.specs.Join.{joins_of}
use Rattle.outline.specs.Border.{channel_at, colour_at}
use Rattle.outline.specs.Growth.{near_ground, is_edge, is_shallow, is_deep, is_reach, body_from, joins_from, is_joining, pass_of, growth_of}
use Rattle.next_pass.specs.NextPass.{next_background, newly_on, joins_in}

greys : List Float → List Float
greys [] = []
greys (v ∷ l) = v ∷ v ∷ v ∷ greys l

-- seven eighths, and three quarters
abbrev lightest : Float
lightest = fin false 7 (negsuc 2)

abbrev light : Float
light = fin false 3 (negsuc 1)

abbrev white : Rgb
white = record { r = one64; g = one64; b = one64 }

-- white, two that are nearly so, and four black pixels
rim : List Float
rim = one64 ∷ lightest ∷ light ∷ replicate 4 zero64

-- a background of a row, looked at, becomes this one, with so many joins
abbrev Shows : List Float → List ℕ → List ℕ → ℕ → Type 0
Shows row back next joins =
    (next_background (greys row) white 1 (length row) back ≡ next) × (joins_in (greys row) white 1 (length row) back ≡ joins)

cases :
    -- The second pixel joins, and the third only after it; a byte 7 is written as 1.
    Shows rim (7 ∷ 0 ∷ 0 ∷ 0 ∷ 0 ∷ 0 ∷ 0 ∷ []) (1 ∷ 1 ∷ 0 ∷ 0 ∷ 0 ∷ 0 ∷ 0 ∷ []) 1
    × Shows rim (1 ∷ 1 ∷ 0 ∷ 0 ∷ 0 ∷ 0 ∷ 0 ∷ []) (1 ∷ 1 ∷ 1 ∷ 0 ∷ 0 ∷ 0 ∷ 0 ∷ []) 1
    -- The edge pixel is black and does not join: growth ends.
    × Shows rim (9 ∷ 1 ∷ 255 ∷ 0 ∷ 0 ∷ 0 ∷ 0 ∷ []) (1 ∷ 1 ∷ 1 ∷ 0 ∷ 0 ∷ 0 ∷ 0 ∷ []) 0
    -- There is no shallow pixel, or there is no edge pixel: growth ends.
    × Shows (one64 ∷ light ∷ []) (2 ∷ 0 ∷ []) (1 ∷ 0 ∷ []) 0
    × Shows (one64 ∷ light ∷ []) (0 ∷ 0 ∷ []) (0 ∷ 0 ∷ []) 0
    × Shows (one64 ∷ light ∷ []) (3 ∷ 4 ∷ []) (1 ∷ 1 ∷ []) 0
unfolding greys rim next_background newly_on joins_in on bit on_at apart within table rows_upto plane_of index_of some_below count_below is_on mask_of
    lower value_of walk upto grid plus row_cost nearest away distance_to in_square abs_of larger difference_of joins_of channel_at colour_at
    near_ground is_edge is_shallow is_deep is_reach body_from joins_from is_joining pass_of growth_of lt le eq add sub mul div neg of_int of_bits
cases = ((refl, refl), (refl, refl), (refl, refl), (refl, refl), (refl, refl), (refl, refl))
