-- Worked cases of the definitions, proved together: one list, one check.
-- Assumes nothing.
use mathlib.Core.Bool.{Bool, true, false, not, ◌&&◌}
use mathlib.Core.List.{List, [], ◌∷◌}
use Prim.Native.Nat.{ℕ}
use lib.Dec.{T, eqb}
use lib.Ieee.{binary64, to_bits, div, of_int}
use Rattle.colour.specs.Weight.{weight_of}
use Rattle.card.specs.Hex.{hex_of, all_hex}
use Rattle.card.specs.Card.{is_colour_text, text_channel, text_colour, card_of, is_readable}
use Rattle.card.specs.Card.{Card}
use Rattle.card.specs.Card.{Border, Given, Unreadable}

all : List Bool → Bool
all [] = true
all (b ∷ bs) = b && all bs

-- a card has this colour, its channels by their bits
is_colour : Card → ℕ → ℕ → ℕ → Bool
is_colour Border r g b = false
is_colour (Given c) r g b = eqb (to_bits binary64 c.r) r && eqb (to_bits binary64 c.g) g && eqb (to_bits binary64 c.b) b
is_colour Unreadable r g b = false

-- a text is declined
is_declined : List ℕ → Bool
is_declined text = not (is_readable (card_of text))

-- a text of five digits 0 and another byte in the middle
holding : ℕ → List ℕ
holding b = 48 ∷ 48 ∷ b ∷ 48 ∷ 48 ∷ 48 ∷ []

cases : List Bool
cases =
    -- F4F1E8: 244, 241 and 232, each over 255
    is_colour (card_of (70 ∷ 52 ∷ 70 ∷ 49 ∷ 69 ∷ 56 ∷ []))
    0x3fee_9e9e_9e9e_9e9f 0x3fee_3e3e_3e3e_3e3e 0x3fed_1d1d_1d1d_1d1d
    -- C0FFEE and c0ffee name one colour: 192, 255 and 238
    ∷ is_colour (card_of (67 ∷ 48 ∷ 70 ∷ 70 ∷ 69 ∷ 69 ∷ []))
    0x3fe8_1818_1818_1818 0x3ff0_0000_0000_0000 0x3fed_dddd_dddd_ddde
    ∷ is_colour (card_of (99 ∷ 48 ∷ 102 ∷ 102 ∷ 101 ∷ 101 ∷ []))
    0x3fe8_1818_1818_1818 0x3ff0_0000_0000_0000 0x3fed_dddd_dddd_ddde
    -- 00 is +0
    ∷ is_colour (card_of (holding 48)) 0 0 0
    -- no text, five digits, seven digits, six digits and a byte 0
    ∷ is_declined []
    ∷ is_declined (48 ∷ 48 ∷ 48 ∷ 48 ∷ 48 ∷ [])
    ∷ is_declined (48 ∷ holding 48)
    ∷ is_declined (48 ∷ 48 ∷ 48 ∷ 48 ∷ 48 ∷ 48 ∷ 0 ∷ [])
    -- a # before five digits, a space, a +
    ∷ is_declined (35 ∷ 48 ∷ 48 ∷ 48 ∷ 48 ∷ 48 ∷ [])
    ∷ is_declined (holding 32)
    ∷ is_declined (holding 43)
    -- the bytes beside the digits: / and :, @ and G, ` and g
    ∷ is_declined (holding 47)
    ∷ is_declined (holding 58)
    ∷ is_declined (holding 64)
    ∷ is_declined (holding 71)
    ∷ is_declined (holding 96)
    ∷ is_declined (holding 103)
    -- a cut without a colour is not declined for it
    ∷ is_readable Border
    ∷ []

cases-hold : T (all cases)
unfolding cases all is_colour is_declined holding hex_of all_hex is_colour_text text_channel text_colour card_of weight_of div of_int to_bits
cases-hold = tt
