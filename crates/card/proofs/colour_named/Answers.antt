-- `card::colour_named` meets its contract.
-- Assumes nothing.
use Rattle.std.proofs.Common.{length, sym, ◌∙◌, arith, eq-eqb, ne_eqb}
use Rattle.card.specs.Card.{is_colour_text, text_colour}
use Rattle.card.specs.steps.Named.{colour_named}
use Rattle.card.proofs.Texts.{six-digits, text-colour-ok}
use Rattle.card.proofs.colour_named.Goals as goal

pub returns-then-text-ne6 : goal.returns-then-text-ne6
unfolding colour_named is_colour_text
returns-then-text-ne6 c = rw (ne_eqb (length c.args.text.now) 6 c.if-text-ne6.true)

pub returns-then-not-all_hex : goal.returns-then-not-all_hex
unfolding colour_named is_colour_text
returns-then-not-all_hex c = rw (eq-eqb _ _ c.if-text-ne6.false, sym c.all_hex.ensures ∙ c.if-not-all_hex.true)

pub channel-r-requires : goal.channel-r-requires
channel-r-requires c = (six-digits _ c.if-text-ne6.false c.if-not-all_hex.ensures, omega arith)

pub channel-g-requires : goal.channel-g-requires
channel-g-requires c = (six-digits _ c.if-text-ne6.false c.if-not-all_hex.ensures, omega arith)

pub channel-b-requires : goal.channel-b-requires
channel-b-requires c = (six-digits _ c.if-text-ne6.false c.if-not-all_hex.ensures, omega arith)

pub invariant_of-result : goal.invariant_of-result
unfolding text_colour
invariant_of-result c =
    let named = six-digits _ c.if-text-ne6.false c.if-not-all_hex.ensures in
    record { in_range = rw (c.channel-r.ensures, c.channel-g.ensures, c.channel-b.ensures) (text-colour-ok c.args.text.now named) }

pub returns : goal.returns
unfolding colour_named text_colour
returns c =
    let named = six-digits _ c.if-text-ne6.false c.if-not-all_hex.ensures in
    rw (named, c.channel-r.ensures, c.channel-g.ensures, c.channel-b.ensures)
