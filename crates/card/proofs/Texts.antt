-- Laws of texts that name a colour: that only the values of their digits count, and that the channels of such a colour are from 0 to 1.
-- Assumes nothing.
use mathlib.Core.Path.{◌≡◌, refl, sym, ap, ◌∙◌}
use mathlib.Core.Bool.{Bool, true, false, cond, ◌&&◌}
use mathlib.Core.List.{List, [], ◌∷◌, map}
use mathlib.Core.Logic.{⊎_elim}
use Prim.Native.Nat.{ℕ, zero, suc, ◌+◌, ◌*◌, ◌≤◌, ◌<◌}
use native.Mathlib.Nat.{not-suc-le-zero, le_of_suc-le-suc}
use native.Mathlib.Omega.{arith}
use lib.Dec.{eqb, leb}
use lib.ListN.{length, get_or, length-map}
use borrow.Author.Tests.{eqb-true, eq-eqb, leb-true}
use Rattle.std.proofs.lemmas.Bool.{and_parts, cases_Bool}
use Rattle.colour.specs.Colour.{colour_ok, rgb_ok}
use Rattle.colour.proofs.Range.{rgb-from}
use Rattle.colour.proofs.Bytes.{byte-ok}
use Rattle.card.specs.Hex.{hex_of, all_hex}
use Rattle.card.specs.Card.{is_colour_text, text_channel, text_colour, card_of, Given, Unreadable}
use Rattle.card.specs.declared.Card.{Card as CardValue}
use Rattle.card.specs.declared.Card.TheVariants as card
use Rattle.card.specs.steps.Named.{colour_named, defined_card}
use Rattle.std.specs.Prelude.{Some, None}
use Rattle.std.specs.Bool.{then_some}
use Rattle.colour.specs.declared.Rgb.{Rgb}
use Rattle.card.specs.steps.Range.{card_ok}

-- every byte of a text of digits is one
digit_at : (text : List ℕ) (i : ℕ) → all_hex text ≡ true → i < length text → hex_of (get_or text i 0) ≤ 15
unfolding all_hex
digit_at [] i e h = absurd (not-suc-le-zero h)
digit_at (b ∷ text) zero e h = leb-true _ 15 (and_parts (leb (hex_of b) 15) (all_hex text) e).0
digit_at (b ∷ text) (suc i) e h = digit_at text i (and_parts (leb (hex_of b) 15) (all_hex text) e).1 (le_of_suc-le-suc h)

-- a text of six digits names a colour
pub six-digits : (text : List ℕ) → length text ≡ 6 → true ≡ all_hex text → is_colour_text text ≡ true
unfolding is_colour_text
six-digits text e f = rw (eq-eqb (length text) 6 e, ← f)

-- the same of a text that names a colour, which has six of them
module _ (text : List ℕ) (named : is_colour_text text ≡ true) where
  pub six-long : length text ≡ 6
  unfolding is_colour_text
  six-long = eqb-true (length text) 6 (and_parts _ (all_hex text) named).0

  pub digit : (i : ℕ) → i < 6 → hex_of (get_or text i 0) ≤ 15
  unfolding is_colour_text
  digit i l = digit_at text i (and_parts (eqb (length text) 6) (all_hex text) named).1 (omega (arith, six-long))

  channel-ok : (c : ℕ) → c < 3 → colour_ok (text_channel text c) ≡ true
  unfolding text_channel
  channel-ok c l = byte-ok _ (omega (arith, digit (2 * c) (omega arith), digit (2 * c + 1) (omega arith)))

  pub text-colour-ok : rgb_ok (text_colour text) ≡ true
  unfolding text_colour
  text-colour-ok = rgb-from _ (channel-ok 0 (omega arith)) (channel-ok 1 (omega arith)) (channel-ok 2 (omega arith))

-- so the card of any text is in range
pub card-ok : (text : List ℕ) → card_ok (card_of text) ≡ true
unfolding card_of
card-ok text =
    ⊎_elim {C = card_ok (card_of text) ≡ true}
    (λ (e : is_colour_text text ≡ true). rw e (text-colour-ok text e))
    (λ (e : is_colour_text text ≡ false). rw e)
    (cases_Bool (is_colour_text text))

-- and so is every card of the code
pub defined-ok : (on : CardValue) → card_ok (defined_card on) ≡ true
defined-ok card.Border = refl
defined-ok (card.Given reference) = reference.in_range
defined-ok card.Unreadable = refl

-- a text that names a colour is the card on which it is given, and any other is unreadable
pub card-named : (text : List ℕ) (c : Rgb) → Some c ≡ colour_named text → card_of text ≡ Given c
unfolding card_of colour_named
card-named text c e = at (is_colour_text text) e
  where
    at : (b : Bool) → Some c ≡ then_some b (text_colour text) → cond b (Given (text_colour text)) Unreadable ≡ Given c
    at true f = cc
    at false f = cc

pub card-unnamed : (text : List ℕ) → None ≡ colour_named text → card_of text ≡ Unreadable
unfolding card_of colour_named
card-unnamed text e = at (is_colour_text text) e
  where
    at : (b : Bool) → None ≡ then_some b (text_colour text) → cond b (Given (text_colour text)) Unreadable ≡ Unreadable
    at true f = cc
    at false f = refl

-- ---- letters of either case

-- what a text names, by the values of its digits
all_small : List ℕ → Bool
all_small [] = true
all_small (v ∷ l) = leb v 15 && all_small l

all-by-values : (text : List ℕ) → all_hex text ≡ all_small (map hex_of text)
unfolding all_hex all_small
all-by-values [] = refl
all-by-values (b ∷ text) = rw (all-by-values text)

value-at : (text : List ℕ) (i : ℕ) → hex_of (get_or text i 0) ≡ get_or (map hex_of text) i 16
value-at [] i = unfold hex_of in refl
value-at (b ∷ text) zero = refl
value-at (b ∷ text) (suc i) = value-at text i

-- two texts whose digits have the same values name the same card, as C0FFEE and c0ffee do
pub same_digits : (one two : List ℕ) → map hex_of one ≡ map hex_of two → card_of one ≡ card_of two
unfolding card_of is_colour_text text_colour text_channel
same_digits one two e =
    let at : (i : ℕ) → hex_of (get_or one i 0) ≡ hex_of (get_or two i 0) =
    λ i. value-at one i ∙ ap (λ (l : List ℕ). get_or l i 16) e ∙ sym (value-at two i) in
    let long : length one ≡ length two = sym (length-map one hex_of) ∙ ap length e ∙ length-map two hex_of in
    let digits : all_hex one ≡ all_hex two = all-by-values one ∙ ap all_small e ∙ sym (all-by-values two) in
    rw (long, digits, at 0, at 1, at 2, at 3, at 4, at 5)
