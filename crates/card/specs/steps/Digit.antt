-- Hexadecimal digits, where a byte is one.
-- Assumes nothing.
use Rattle.std.specs.Prelude.{ℕ, leb, Option}
use Rattle.std.specs.Bool.{then_some}
use Rattle.card.specs.Hex.{hex_of}

-- the value of a hexadecimal digit; none for any other byte
abbrev pub digit_of : ℕ → Option ℕ
digit_of b = then_some (leb (hex_of b) 15) (hex_of b)
