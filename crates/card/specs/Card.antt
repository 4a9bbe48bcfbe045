-- The card's colour, given as a text of six hexadecimal digits.
-- Assumes nothing.
use Rattle.std.specs.Prelude.{ℕ, ◌+◌, ◌*◌, Bool, true, false, cond, ◌&&◌, List, eqb, length, get_or, Float}
use Rattle.colour.specs.declared.Rgb.{Rgb}
use Rattle.colour.specs.Weight.{weight_of}
use Rattle.card.specs.Hex.{hex_of, all_hex}

-- where the reference colour comes from (R81): the picture's border, where no colour is given; the colour that is given; or a text was
-- given that names no colour
pub data Card : Type 0 where
  Border : Card
  Given : Rgb → Card
  Unreadable : Card

-- a text names a colour (R81): it is six hexadecimal digits and nothing else
unfoldable pub is_colour_text : List ℕ → Bool
is_colour_text text = eqb (length text) 6 && all_hex text

-- channel c of such a text (R81): digits 2c and 2c + 1 are a byte v, the first digit counting sixteen times, and the channel is v / 255
unfoldable pub text_channel : List ℕ → ℕ → Float
text_channel text c = weight_of (16 * hex_of (get_or text (2 * c) 0) + hex_of (get_or text (2 * c + 1) 0))

-- the colour of such a text (R81): red, green, blue
unfoldable pub text_colour : List ℕ → Rgb
text_colour text = record { r = text_channel text 0; g = text_channel text 1; b = text_channel text 2 }

-- the card of a text that was given (R81)
unfoldable pub card_of : List ℕ → Card
card_of text = cond (is_colour_text text) (Given (text_colour text)) Unreadable

-- whether a card can be cut on (R82): no colour was given, or one that can be read
abbrev pub is_readable : Card → Bool
is_readable Border = true
is_readable (Given colour) = true
is_readable Unreadable = false
