-- What ground, growth and cut decline: their tests in order (R44 to R49, R55 to R57, R82). Lengths are given as numbers.
-- Assumes nothing.
use Rattle.std.specs.Prelude.{ℕ, ◌*◌, List, [], ◌∷◌, ◌++◌, leb, length, Float}
use Rattle.std.specs.Float.Ieee.Scale.{finite}
use Rattle.plane.specs.Refusal.{Test, refusal_of, sides_ok, is_plane, is_colours, room_for, is_room}
use Rattle.plane.specs.Search.{some_below}
use Rattle.plane.specs.Mask.{is_on}
use Rattle.colour.specs.declared.Rgb.{Rgb}
use Rattle.colour.specs.declared.Settings.{Settings}
use Rattle.colour.specs.Colour.{colours_ok, rgb_ok}
use Rattle.card.specs.Card.{Card}
use Rattle.card.specs.Card.{is_readable}
use Rattle.outline.specs.Cut.{alpha_mask}

-- the four work buffers of growth and cut, by how many numbers each holds at least (R46)
unfoldable pub work_tests : ℕ → ℕ → ℕ → ℕ → ℕ → List Test
work_tests least nearest shallow deep marks =
    (3, leb least nearest) ∷ (3, leb least shallow) ∷ (3, leb least deep) ∷ (3, leb least marks) ∷ []

-- what a picture is declined for: a text that names no card's colour, a colour that is not from 0 to 1, a tolerance that is no finite
-- number (R82, R47, R48)
unfoldable pub picture_tests : Card → List Float → Float → List Test
picture_tests card colours tolerance = (11, is_readable card) ∷ (4, colours_ok colours) ∷ (5, finite tolerance) ∷ []

-- ground (R55): the colours, the output plane, the work buffer; then the picture
unfoldable pub ground_lengths : ℕ → ℕ → ℕ → ℕ → ℕ → List Test
ground_lengths h w colours out work =
    (1, sides_ok h w) ∷ (2, is_colours h w colours) ∷ (3, is_plane h w out) ∷ (3, is_room h w work) ∷ []

unfoldable pub ground_refusal : List Float → ℕ → ℕ → Card → Float → ℕ → ℕ → ℕ
ground_refusal colours h w card tolerance out work =
    refusal_of (ground_lengths h w (length colours) out work ++ picture_tests card colours tolerance)

-- growth (R56): the colours and the background, the output plane, four work buffers; then that the colours and the reference are from 0
-- to 1
unfoldable pub growth_lengths : ℕ → ℕ → ℕ → ℕ → ℕ → ℕ → ℕ → ℕ → ℕ → List Test
growth_lengths h w colours back out nearest shallow deep marks =
    (1, sides_ok h w) ∷ (2, is_colours h w colours) ∷ (2, is_plane h w back) ∷ (3, is_plane h w out)
    ∷ work_tests (room_for h w) nearest shallow deep marks

unfoldable pub growth_refusal : List Float → ℕ → ℕ → ℕ → Rgb → ℕ → ℕ → ℕ → ℕ → ℕ → ℕ
growth_refusal colours back h w reference out nearest shallow deep marks =
    refusal_of
    (growth_lengths h w (length colours) back out nearest shallow deep marks ++ ((4, colours_ok colours) ∷ (4, rgb_ok reference) ∷ []))

-- cut (R57): the colours and the alpha, two output planes, four work buffers; then the picture, and that one of its n alphas reaches the
-- threshold
unfoldable pub cut_lengths : ℕ → ℕ → ℕ → ℕ → ℕ → ℕ → ℕ → ℕ → ℕ → ℕ → List Test
cut_lengths h w colours alpha mask weights nearest shallow deep marks =
    (1, sides_ok h w) ∷ (2, is_colours h w colours) ∷ (2, is_plane h w alpha) ∷ (3, is_plane h w mask) ∷ (3, is_plane h w weights)
    ∷ work_tests (room_for h w) nearest shallow deep marks

unfoldable pub cut_contents : Card → List Float → List ℕ → ℕ → Settings → List Test
cut_contents card colours alpha n s =
    picture_tests card colours s.key_bg_tolerance ++ ((6, some_below n (is_on (alpha_mask alpha n s))) ∷ [])

unfoldable pub cut_refusal : List Float → List ℕ → ℕ → ℕ → Card → Settings → ℕ → ℕ → ℕ → ℕ → ℕ → ℕ → ℕ
cut_refusal colours alpha h w card s mask weights nearest shallow deep marks =
    refusal_of
    (cut_lengths h w (length colours) (length alpha) mask weights nearest shallow deep marks
    ++ cut_contents card colours alpha (h * w) s)
