-- `card::card_of` meets its contract.
-- Assumes nothing.
use Rattle.std.proofs.Common.{◌≡◌, Some, None, sym}
use Rattle.card.specs.steps.Named.{colour_named}
use Rattle.card.proofs.Texts.{card-named, card-unnamed}
use Rattle.card.proofs.card_of.Goals as goal

pub returns-in-Some : goal.returns-in-Some
returns-in-Some c =
    let e : Some c.in-Some.named.colour ≡ colour_named c.args.text.now = rw c.in-Some.is at c.colour_named.ensures in
    sym (card-named c.args.text.now _ e)

pub returns-in-None : goal.returns-in-None
returns-in-None c =
    let e : None ≡ colour_named c.args.text.now = rw c.in-None.is at c.colour_named.ensures in
    sym (card-unnamed c.args.text.now e)
