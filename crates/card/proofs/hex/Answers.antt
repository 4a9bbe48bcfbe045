-- `card::hex` meets its contract.
-- Assumes nothing.
use Rattle.std.proofs.Common.{◌≡◌, ℕ, ◌<◌, ◌≤◌, leb, Option, Some, None, ⊎_elim, arith}
use Rattle.std.specs.Bool.{then_some}
use Rattle.std.specs.Option.{SomeIff}
use Rattle.std.specs.Char.{digit_value}
use Rattle.std.proofs.lemmas.Bool.Decides.{nat_tests}
use borrow.Author.Tests.{le-leb}
use Rattle.std.proofs.lemmas.Bool.{cases_lt}
use Rattle.card.specs.Hex.{hex_of}
use Rattle.card.proofs.hex.Goals as goal

-- a digit's value is the library's, and where the library has none it is 16
same : (b : ℕ) → digit_value b < 16 → hex_of b ≡ digit_value b
unfolding hex_of
same b l = grind (arith, nat_tests)

beyond : (b : ℕ) → 16 ≤ digit_value b → hex_of b ≡ 16
unfolding hex_of
beyond b l = grind (arith, nat_tests)

tells : (r : Option ℕ) (v n : ℕ) → SomeIff r (v < 16) v → (v < 16 → n ≡ v) → (16 ≤ v → n ≡ 16) → r ≡ then_some (leb n 15) n
tells None v n small s o =
    ⊎_elim {C = None ≡ then_some (leb n 15) n}
    (λ (l : v < 16). absurd (small l))
    (λ (l : 16 ≤ v). rw (o l))
    (cases_lt v 16)
tells (Some x) v n small s o = rw (s small.0, small.1, le-leb v 15 (omega (arith, small.0)))

pub returns : goal.returns
returns c = let b = c.args.b in tells c.to_digit.result (digit_value b) (hex_of b) c.to_digit.ensures.value (same b) (beyond b)
