-- Cards whose colour is in range, as every colour of a text is.
-- Assumes nothing.
use Rattle.std.specs.Prelude.{Bool, true}
use Rattle.colour.specs.Colour.{rgb_ok}
use Rattle.card.specs.Card.{Card}
use Rattle.card.specs.Card.{Border, Given, Unreadable}

-- the channels of a colour that is given are from 0 to 1
abbrev pub card_ok : Card → Bool
card_ok Border = true
card_ok (Given colour) = rgb_ok colour
card_ok Unreadable = true
