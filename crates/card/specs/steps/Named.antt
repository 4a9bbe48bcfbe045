-- The colour that a text names, and the card of the definitions for a card of the code.
-- Assumes nothing.
use Rattle.std.specs.Prelude.{ℕ, List, Option, Some, None}
use Rattle.std.specs.Bool.{then_some}
use Rattle.colour.specs.declared.Rgb.{Rgb}
use Rattle.colour.specs.declared.picture.Reference.{Reference}
use Rattle.card.specs.declared.Card.{Card as CardValue}
use Rattle.card.specs.declared.Card.TheVariants as card
use Rattle.card.specs.Card.{Card, Border, Given, Unreadable, is_colour_text, text_colour}

-- the colour that a text names, where it names one
unfoldable pub colour_named : List ℕ → Option Rgb
colour_named text = then_some (is_colour_text text) (text_colour text)

-- the colour of the reference that is given, where one is
abbrev pub colour_given : Option Reference → Option Rgb
colour_given None = None
colour_given (Some reference) = Some reference.colour

-- the card of the definitions for one of the code, whose colour is that of a reference
abbrev pub defined_card : CardValue → Card
defined_card card.Border = Border
defined_card (card.Given reference) = Given reference.colour
defined_card card.Unreadable = Unreadable
