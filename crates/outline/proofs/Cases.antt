-- The proved cases (R73 to R79, R86): one list, line by line, with one check that the prover computes from the definitions.
-- Assumes nothing.
use mathlib.Core.Bool.{Bool, true, false, cond, not, ◌&&◌}
use mathlib.Core.List.{List, [], ◌∷◌, ◌++◌}
use Prim.Native.Nat.{ℕ, ◌*◌}
use lib.IntN.{ℤ, pos, negsuc}
use lib.Dec.{T, eqb}
use lib.ListN.{replicate}
use lib.Ieee.{Float, fin, lt, le, eq, add, sub, mul, div, neg, of_int, of_bits}
use Rattle.plane.specs.Plane.{on, bit, on_at, apart, within, table, rows_upto, plane_of, index_of}
use Rattle.plane.specs.Search.{some_below, count_below, first_below, last_below}
use Rattle.line.specs.Walk.{lower}
use Rattle.line.specs.Grid.{value_of, walk, upto, grid, plus}
use Rattle.nearest.specs.Nearest.{row_cost, nearest, row_of, column_of, rows_plane, columns_plane, away, distance_to}
use Rattle.squares.specs.Squares.{larger, reach, in_square, squares_plane}
use Rattle.plane.specs.Mask.{is_on, mask_of, some_off}
use Rattle.labels.specs.Labels.{beside, renamed, merge, join_two, join_with, join_upto, first_pixel, is_first, parts, label_of, label_at}
use Rattle.labels.specs.Labels.{labels_plane}
use Rattle.colour.specs.declared.Settings.{Settings}
use Rattle.colour.specs.Number.{zero64, one64, abs_of, plus_zero, half_of}
use Rattle.colour.specs.Colour.{difference_of, close_to}
use Rattle.colour.specs.Join.{joins_of}
use Rattle.colour.specs.Settings.{passes_of, on_of}
use Rattle.colour.specs.Weight.{weight_of}
use Rattle.card.specs.Card.{Card}
use Rattle.card.specs.Card.{Border}
use Rattle.card.specs.Hex.{hex_of, all_hex}
use Rattle.card.specs.Card.{is_colour_text, text_channel, text_colour, card_of}
use Rattle.median.specs.Median.{insert, sorted, placed, lower_middle, upper_middle, median_of}
use Rattle.outline.specs.Border.{row_pixels, inner_column, border_list, listed, on_border, channel_at, colour_at, reference_channel}
use Rattle.outline.specs.Border.{reference_of}
use Rattle.outline.specs.Ground.{is_close, close_plane, is_ground, ground_from, ground_of, count_on, found_from, is_found}
use Rattle.outline.specs.Growth.{near_ground, is_edge, is_shallow, is_deep, is_reach, body_from, joins_from, is_joining, pass_of, growth_of}
use Rattle.plane.specs.Box.{row_has, column_has, lesser_of, box_of, whole_of}
use Rattle.outline.specs.Cut.{alpha_mask, is_sought, is_keyed, grown_ground, cut_mask, crop_of, Cut, cut_of}
use Rattle.outline.specs.Calls.{cut_in}

-- ---- tests

pub all : List Bool → Bool
all [] = true
all (t ∷ l) = t && all l

-- two lists of numbers are equal
same : List ℕ → List ℕ → Bool
same [] [] = true
same [] (n ∷ m) = false
same (k ∷ l) [] = false
same (k ∷ l) (n ∷ m) = eqb k n && same l m

same_z : List ℤ → List ℤ → Bool
same_z [] [] = true
same_z [] (n ∷ m) = false
same_z (k ∷ l) [] = false
same_z (pos k ∷ l) (pos n ∷ m) = eqb k n && same_z l m
same_z (pos k ∷ l) (negsuc n ∷ m) = false
same_z (negsuc k ∷ l) (pos n ∷ m) = false
same_z (negsuc k ∷ l) (negsuc n ∷ m) = eqb k n && same_z l m

-- a mask's pixel (y, x) gets this row and this column
gets : List ℕ → ℕ → ℕ → ℕ → ℕ → ℕ → ℕ → Bool
gets mask h w y x row column = same_z (row_of (nearest mask h w y x) ∷ column_of (nearest mask h w y x) ∷ []) (pos row ∷ pos column ∷ [])

-- a mask's labels are these, n of them
labelled : List ℕ → ℕ → ℕ → List ℕ → ℕ → Bool
labelled mask h w labels n = same (labels_plane mask h w) labels && eqb (parts mask h w) n

-- ---- pictures: every pixel grey, every alpha 255

greys : List Float → List Float
greys [] = []
greys (v ∷ l) = v ∷ v ∷ v ∷ greys l

abbrev black : Float
black = zero64

abbrev white : Float
white = one64

-- three quarters, and a half
abbrev light : Float
light = fin false 3 (negsuc 1)

abbrev middle : Float
middle = fin false 1 (negsuc 0)

-- the settings 128, yes, p, a tolerance, yes
abbrev settings : ℕ → Float → Settings
settings p tolerance =
    record { alpha_threshold = pos 128; key_bg = true; key_bg_fringe = pos p; key_bg_tolerance = tolerance; crop_to_alpha = true }

opaque255 : ℕ → ℕ → List ℕ
opaque255 h w = replicate (h * w) 255

-- the cut of such a picture with tolerance 0
cut_with : List Float → ℕ → ℕ → ℕ → Cut
cut_with picture h w p = cut_in (greys picture) (opaque255 h w) h w Border (settings p zero64)

-- keyed as told, and cropped to this box
cut_to : List Float → ℕ → ℕ → ℕ → Bool → List ℕ → Bool
cut_to picture h w p keyed box =
    let cut = cut_with picture h w p in
    cond keyed cut.keyed (not cut.keyed) && same (cut.box.y0 ∷ cut.box.y1 ∷ cut.box.x0 ∷ cut.box.x1 ∷ []) box

-- the mask is this
cut_mask_is : List Float → ℕ → ℕ → ℕ → List ℕ → Bool
cut_mask_is picture h w p mask = same (cut_with picture h w p).mask mask

found : List Float → ℕ → ℕ → Bool
found picture h w = is_found (greys picture) h w (reference_of (greys picture) h w) zero64

-- the row of 30 pixels, with this grey in column 27
row30 : Float → List Float
row30 v = replicate 27 white ++ (v ∷ black ∷ black ∷ [])

-- ---- pictures of 3 by 3 on a card, cut with p 0

cut_on : List Float → Card → Float → Cut
cut_on picture card tolerance = cut_in (greys picture) (opaque255 3 3) 3 3 card (settings 0 tolerance)

-- the card of six equal digits
digits : ℕ → Card
digits b = card_of (replicate 6 b)

-- the object is the middle pixel alone; or no ground is found, and all of the picture is the object
cut_out : Cut → Bool
cut_out cut = cut.keyed && same cut.mask (0 ∷ 0 ∷ 0 ∷ 0 ∷ 1 ∷ 0 ∷ 0 ∷ 0 ∷ 0 ∷ [])

all_left : Cut → Bool
all_left cut = not cut.keyed && same cut.mask (replicate 9 1)

-- white with a black middle; and five black and three light pixels of border around a white middle
ring : List Float
ring = replicate 4 white ++ (black ∷ replicate 4 white)

mixed : List Float
mixed = replicate 4 black ++ (white ∷ black ∷ replicate 3 light)

-- ---- the list

pub cases : List Bool
cases =
    -- Nearest, 1 by 3, on at columns 0 and 2: (0, 1) gets (0, 0). 3 by 1, on at rows 0 and 2: (1, 0) gets (0, 0).
    gets (1 ∷ 0 ∷ 1 ∷ []) 1 3 0 1 0 0
    ∷ gets (1 ∷ 0 ∷ 1 ∷ []) 3 1 1 0 0 0
    -- Nearest, 2 by 2, on at (0, 1) and (1, 0): (0, 0) and (1, 1) get (1, 0). None on: all (-1, 0).
    ∷ gets (0 ∷ 1 ∷ 1 ∷ 0 ∷ []) 2 2 0 0 1 0
    ∷ gets (0 ∷ 1 ∷ 1 ∷ 0 ∷ []) 2 2 1 1 1 0
    ∷ same_z (rows_plane (0 ∷ 0 ∷ 0 ∷ 0 ∷ []) 2 2) (replicate 4 (negsuc 0))
    ∷ same_z (columns_plane (0 ∷ 0 ∷ 0 ∷ 0 ∷ []) 2 2) (replicate 4 (pos 0))
    -- Labels of 10/01: 10/02, n 2. Of 101/111: 101/111, n 1.
    ∷ labelled (1 ∷ 0 ∷ 0 ∷ 1 ∷ []) 2 2 (1 ∷ 0 ∷ 0 ∷ 2 ∷ []) 2
    ∷ labelled (1 ∷ 0 ∷ 1 ∷ 1 ∷ 1 ∷ 1 ∷ []) 2 3 (1 ∷ 0 ∷ 1 ∷ 1 ∷ 1 ∷ 1 ∷ []) 1
    -- Squares of 10000: k 1 gives 11000, iterations 0 gives 11111; 00000 stays.
    ∷ same (squares_plane (1 ∷ 0 ∷ 0 ∷ 0 ∷ 0 ∷ []) 1 5 1) (1 ∷ 1 ∷ 0 ∷ 0 ∷ 0 ∷ [])
    ∷ same (squares_plane (1 ∷ 0 ∷ 0 ∷ 0 ∷ 0 ∷ []) 1 5 0) (replicate 5 1)
    ∷ same (squares_plane (replicate 5 0) 1 5 1) (replicate 5 0)
    ∷ same (squares_plane (replicate 5 0) 1 5 0) (replicate 5 0)
    -- The border list of 3 by 1: rows 0, 2, 1, 1.
    ∷ same (border_list 3 1) (0 ∷ 2 ∷ 1 ∷ 1 ∷ [])
    -- Ground, 1 by 1: not found.
    ∷ not (found (white ∷ []) 1 1)
    ∷ cut_to (white ∷ []) 1 1 0 false (0 ∷ 1 ∷ 0 ∷ 1 ∷ [])
    -- 3 by 4 white with (0, 0) black, tolerance 0: found, crop (0, 2, 0, 2).
    ∷ found (black ∷ replicate 11 white) 3 4
    ∷ cut_to (black ∷ replicate 11 white) 3 4 0 true (0 ∷ 2 ∷ 0 ∷ 2 ∷ [])
    -- With (0, 1) black too: 8 of 10, not found.
    ∷ not (found (black ∷ black ∷ replicate 10 white) 3 4)
    ∷ cut_to (black ∷ black ∷ replicate 10 white) 3 4 0 false (0 ∷ 3 ∷ 0 ∷ 4 ∷ [])
    -- 1 by 30, grey 1.0 in columns 0 to 26, 0.0 in 28 and 29, tolerance 0, p 1: column 27 at 0.75 joins, at 0.5 doesn't.
    ∷ cut_mask_is (row30 light) 1 30 1 (replicate 27 0 ++ (0 ∷ 1 ∷ 1 ∷ []))
    ∷ cut_mask_is (row30 middle) 1 30 1 (replicate 27 0 ++ (1 ∷ 1 ∷ 1 ∷ []))
    -- A white border, tolerance 0, given FFFFFF: found, as without a colour; given 000000: not found, and no second try with the border.
    ∷ cut_out (cut_on ring Border zero64)
    ∷ cut_out (cut_on ring (digits 70) zero64)
    ∷ all_left (cut_on ring (digits 48) zero64)
    -- A border of black and light, tolerance 0.5: without a colour not found, given 555555 found.
    ∷ all_left (cut_on mixed Border middle)
    ∷ cut_out (cut_on mixed (digits 53) middle)
    ∷ []

pub cases-hold : T (all cases)
unfolding cases all same same_z gets labelled greys opaque255 cut_with cut_to cut_mask_is found row30 cut_on digits cut_out all_left ring mixed
    card_of is_colour_text all_hex hex_of text_colour text_channel weight_of on bit on_at apart within table rows_upto
    plane_of some_below count_below lower value_of walk upto grid plus row_cost nearest row_of column_of rows_plane columns_plane away distance_to
    larger reach in_square squares_plane is_on beside renamed merge join_two join_with join_upto first_pixel is_first parts label_of
    label_at labels_plane abs_of Rattle.colour.specs.Number.larger plus_zero half_of difference_of close_to joins_of passes_of on_of insert sorted
    placed lower_middle upper_middle median_of row_pixels inner_column border_list listed on_border channel_at colour_at reference_channel
    reference_of is_close close_plane is_ground ground_from ground_of count_on some_off found_from is_found near_ground is_edge is_shallow is_deep
    mask_of index_of is_reach body_from joins_from is_joining pass_of growth_of alpha_mask is_sought is_keyed grown_ground cut_mask first_below
    last_below row_has column_has lesser_of box_of whole_of crop_of cut_of lt le eq add sub mul div neg of_int of_bits
cases-hold = tt
