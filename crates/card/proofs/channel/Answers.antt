-- `card::channel` meets its contract.
-- Assumes nothing.
use Rattle.std.proofs.Common.{◌≡◌, ℕ, ◌+◌, ◌*◌, ◌≤◌, get_or, Option, Some, ◌∙◌, arith}
use borrow.Author.Tests.{le-leb}
use Rattle.card.specs.Hex.{hex_of}
use Rattle.card.specs.Card.{text_channel}
use Rattle.card.specs.steps.Digit.{digit_of}
use Rattle.card.proofs.Texts.{six-long, digit}
use Rattle.card.proofs.channel.Goals as goal

-- a digit has a value
valued : (b : ℕ) → hex_of b ≤ 15 → digit_of b ≡ Some (hex_of b)
valued b l = rw (le-leb (hex_of b) 15 l)

pub bounds-text-c : goal.bounds-text-c
bounds-text-c c = omega (arith, six-long _ c.requires.0)

pub bounds-text-c-2 : goal.bounds-text-c-2
bounds-text-c-2 c = omega (arith, six-long _ c.requires.0)

pub unwrap-high-requires : goal.unwrap-high-requires
unwrap-high-requires c = rw (c.hex.ensures, valued _ (digit c.args.text.now c.requires.0 (2 * c.args.c) (omega arith)))

pub unwrap-low-requires : goal.unwrap-low-requires
unwrap-low-requires c = rw (c.hex-2.ensures, valued _ (digit c.args.text.now c.requires.0 (2 * c.args.c + 1) (omega arith)))

-- so it is the value that is taken
taken : (b v : ℕ) (r : Option ℕ) → hex_of b ≤ 15 → r ≡ digit_of b → r ≡ Some v → v ≡ hex_of b
taken b v r l e f =
    let g = valued b l in cc

pub returns : goal.returns
unfolding text_channel
returns c =
    let t = c.args.text.now in
    let i = 2 * c.args.c in
    let high = taken (get_or t i 0) c.unwrap-high.result _ (digit t c.requires.0 i (omega arith)) c.hex.ensures c.unwrap-high.ensures in
    let low = taken (get_or t (i + 1) 0) c.unwrap-low.result _ (digit t c.requires.0 (i + 1) (omega arith)) c.hex-2.ensures c.unwrap-low.ensures in
    c.weight.ensures ∙ rw (high, low)
