-- The premises of the theorem about two pictures can be met, and at the bound: two pictures of 13 by 13, cut with p = 1, that differ at the
-- middle pixel alone, which lies exactly p + 5 from the ground and from the border. So they can with a colour given, by the texts FFFFFF
-- and ffffff. The prover computes it from the definitions.
-- Assumes nothing.
use mathlib.Core.Path.{◌≡◌, refl}
use mathlib.Core.Bool.{Bool, true, false, cond, not, ◌&&◌, ◌||◌}
use mathlib.Core.List.{List}
use mathlib.Core.Logic.{◌⊎◌, inl, inr, ⊎_elim}
use Prim.Native.Nat.{ℕ, ◌+◌, ◌*◌, ◌/◌, ◌<◌}
use native.Mathlib.Omega.{arith}
use lib.Dec.{eqb}
use lib.IntN.{pos}
use lib.ListN.{length, replicate}
use lib.Ieee.{Float, lt, le, eq, add, sub, mul, div, neg, of_int}
use borrow.Author.Tests.{not-true, not-false}
use Rattle.plane.specs.Plane.{on, bit, on_at, apart, within, table}
use Rattle.plane.specs.Search.{some_below}
use Rattle.plane.specs.Mask.{is_on, mask_of}
use Rattle.plane.specs.Refusal.{refusal_of}
use Rattle.std.proofs.lemmas.Bool.{and_parts, or_cases}
use Rattle.plane.proofs.Search.{none_found, not-both}
use Rattle.squares.specs.Squares.{in_square}
use Rattle.colour.specs.declared.Settings.{Settings}
use Rattle.card.specs.Card.{Border}
use Rattle.card.specs.Hex.{hex_of, all_hex}
use Rattle.card.specs.Card.{is_colour_text, text_channel, text_colour, card_of}
use Rattle.colour.specs.Weight.{weight_of}
use Rattle.colour.specs.Number.{zero64, one64, abs_of, plus_zero, half_of}
use Rattle.colour.specs.Colour.{difference_of, close_to, colour_ok, colours_ok, same_colour}
use Rattle.colour.specs.Settings.{on_of, passes_of}
use Rattle.median.specs.Median.{insert, sorted, placed, lower_middle, upper_middle, median_of}
use Rattle.outline.specs.Border.{row_pixels, inner_column, border_list, listed, on_border, channel_at, colour_at, reference_channel}
use Rattle.outline.specs.Border.{reference_of, reference_on}
use Rattle.outline.specs.Ground.{is_close, close_plane, ground_of}
use Rattle.outline.specs.Growth.{near_ground}
use Rattle.outline.specs.Cut.{alpha_mask}
use Rattle.outline.specs.Refusal.{work_tests, cut_lengths, picture_tests, cut_contents, cut_refusal}
use Rattle.outline.specs.Calls.{Buffers, refusal_in}
use Rattle.outline.specs.Premises.{same_tolerance, SameSettings, AgreeAt, reach_of, Agree, SameLengths, TwoCalls, TwoPictures}
use Rattle.outline.proofs.Masks.{near-mono}
use Rattle.outline.proofs.GroundLaws.{ground-close}
use Rattle.outline.proofs.TwoPictures.{two-pictures}

-- ---- the pictures: a white border, black inside, and the middle pixel black or white

abbrev pub side : ℕ
side = 13

abbrev pub middle : ℕ
middle = 84

pub grey : Float → ℕ → Float
grey v i = cond (on_border side side i) one64 (cond (eqb i middle) v zero64)

pub picture_of : Float → List Float
picture_of v = table (λ (k : ℕ). grey v (k / 3)) 0 (3 * (side * side))

abbrev pub one : List Float
one = picture_of zero64

abbrev pub two : List Float
two = picture_of one64

pub alpha : List ℕ
alpha = replicate (side * side) 255

-- threshold 128, keying, p = 1, tolerance 0, cropping
abbrev pub settings : Settings
settings =
    record { alpha_threshold = pos 128; key_bg = true; key_bg_fringe = pos 1; key_bg_tolerance = zero64; crop_to_alpha = true }

abbrev pub lines : List ℕ
lines = replicate (2 * (side * side) + 2 * (side + side) + 16) 0

pub buffers : Buffers
buffers =
    let n = side * side in
    record { mask = replicate n 0; weights = replicate n zero64; nearest = lines; shallow = lines; deep = lines; marks = lines }

-- the close pixels of the first picture
close : List ℕ
close = close_plane one side side (reference_of one side side) zero64

-- ---- what the prover computes

-- the call is accepted
accepted : refusal_in one alpha side side Border settings buffers ≡ 0
unfolding grey picture_of alpha buffers table cut_refusal cut_lengths work_tests picture_tests cut_contents refusal_of colours_ok colour_ok some_below is_on
    mask_of alpha_mask on_of on bit le lt row_pixels inner_column border_list listed on_border
accepted = refl

ranges : colours_ok two ≡ true
unfolding grey picture_of table colours_ok colour_ok le lt row_pixels inner_column border_list listed on_border
ranges = refl

-- a pixel where the pictures differ is neither on the border nor within the reach of a close pixel
apart_at : ℕ → Bool
apart_at i =
    same_colour (colour_at one i) (colour_at two i) || (not (on_border side side i) && not (near_ground close side side (reach_of settings) i))

all_apart : some_below (side * side) (λ (i : ℕ). not (apart_at i)) ≡ false
unfolding apart_at grey picture_of close table some_below same_colour colour_at channel_at on_border listed border_list row_pixels inner_column
    near_ground in_square on_at apart within on bit close_plane is_close close_to difference_of abs_of Rattle.colour.specs.Number.larger
    passes_of reference_of reference_channel median_of sorted insert placed lower_middle upper_middle plus_zero half_of lt le eq add sub mul div
    neg
all_apart = refl

-- they differ at the middle pixel, which is exactly p + 5 from a close pixel
differ : same_colour (colour_at one middle) (colour_at two middle) ≡ false
unfolding grey picture_of table same_colour colour_at channel_at on_border listed border_list row_pixels inner_column eq
differ = refl

exactly : near_ground close side side (reach_of settings + 1) middle ≡ true
unfolding grey picture_of close table some_below colour_at channel_at on_border listed border_list row_pixels inner_column near_ground in_square
    on_at apart within on bit close_plane is_close close_to difference_of abs_of Rattle.colour.specs.Number.larger passes_of reference_of
    reference_channel median_of sorted insert placed lower_middle upper_middle plus_zero half_of lt le eq add sub mul div neg
exactly = refl

-- ---- the premises are met

-- the ground is close, so what is near the ground is near a close pixel
near-close : (k i : ℕ) → near_ground (ground_of one side side (reference_of one side side) zero64) side side k i ≡ true
    → near_ground close side side k i ≡ true
unfolding ground_of close
near-close = near-mono _ _ side side (omega arith) (λ j l t. ground-close _ side side j t)

agrees : (i : ℕ) → i < side * side → (on_border side side i ≡ true) ⊎ (near_ground close side side (reach_of settings) i ≡ true)
    → AgreeAt one two i
unfolding apart_at
agrees i l t =
    ⊎_elim {C = AgreeAt one two i}
    (λ (e : same_colour (colour_at one i) (colour_at two i) ≡ true). e)
    (λ (e : not (on_border side side i) && not (near_ground close side side (reach_of settings) i) ≡ true).
    let z = and_parts _ _ e in
    ⊎_elim {C = AgreeAt one two i} (λ b. not-both _ b (not-true _ z.0)) (λ b. not-both _ b (not-true _ z.1)) t)
    (or_cases (same_colour (colour_at one i) (colour_at two i)) _
    (not-false (apart_at i) (none_found (λ (k : ℕ). not (apart_at k)) (side * side) all_apart i l)))

agree : Agree one two side side Border settings
agree = record { border = λ i l e. agrees i l (inl e); around = λ i l e. agrees i l (inr (near-close (reach_of settings) i e)) }

alike : SameSettings settings settings
unfolding same_tolerance eq
alike = record { threshold = refl; keying = refl; passes = refl; tolerance = refl; cropping = refl }

lengths : SameLengths buffers buffers
lengths = record { mask = refl; weights = refl; nearest = refl; shallow = refl; deep = refl; marks = refl }

sizes : length one ≡ length two
unfolding picture_of table
sizes = refl

in_range : colours_ok one ≡ true
unfolding grey picture_of table colours_ok colour_ok le lt row_pixels inner_column border_list listed on_border
in_range = refl

-- every premise of the theorem holds of these two calls
pub calls : TwoCalls one two alpha side side Border Border settings settings buffers buffers
calls = search (sizes, alike, lengths, in_range, ranges, agree)

-- so their outlines are equal, although the pictures differ
pub instance : TwoPictures one two alpha side side Border Border settings settings buffers buffers
instance = two-pictures one two alpha side side Border Border settings settings buffers buffers calls

-- ---- with a colour given

-- the texts FFFFFF and ffffff
pub capitals : List ℕ
capitals = replicate 6 70

pub smalls : List ℕ
smalls = replicate 6 102

one-card : card_of capitals ≡ card_of smalls
unfolding capitals smalls card_of is_colour_text all_hex hex_of text_colour text_channel
one-card = refl

-- the reference is that of the border, which is white
white : reference_on (card_of capitals) one side side ≡ reference_of one side side
unfolding capitals card_of is_colour_text all_hex hex_of text_colour text_channel weight_of grey picture_of table channel_at on_border listed border_list
    row_pixels inner_column reference_of reference_channel median_of sorted insert placed lower_middle upper_middle plus_zero half_of
    Rattle.colour.specs.Number.larger lt le eq add sub mul div neg of_int
white = refl

given-accepted : refusal_in one alpha side side (card_of capitals) settings buffers ≡ 0
unfolding capitals card_of is_colour_text all_hex hex_of grey picture_of alpha buffers table cut_refusal cut_lengths work_tests picture_tests
    cut_contents refusal_of colours_ok colour_ok some_below is_on mask_of alpha_mask on_of on bit le lt row_pixels inner_column border_list listed
    on_border
given-accepted = refl

given-agree : Agree one two side side (card_of capitals) settings
given-agree = record { border = agree.border; around = λ i l e. agree.around i l (rw (← white) e) }

pub given-calls : TwoCalls one two alpha side side (card_of capitals) (card_of smalls) settings settings buffers buffers
given-calls = search (sizes, one-card, alike, lengths, in_range, ranges, given-agree)

pub given-instance : TwoPictures one two alpha side side (card_of capitals) (card_of smalls) settings settings buffers buffers
given-instance = two-pictures one two alpha side side (card_of capitals) (card_of smalls) settings settings buffers buffers given-calls
