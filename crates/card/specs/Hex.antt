-- Hexadecimal digits, as bytes of ASCII.
-- Assumes nothing.
use Rattle.std.specs.Prelude.{ℕ, ◌-◌, Bool, true, cond, ◌&&◌, List, [], ◌∷◌, leb}

-- a byte is one of those from first to last (R81)
abbrev pub is_from : ℕ → ℕ → ℕ → Bool
is_from first last b = leb first b && leb b last

-- the value of a hexadecimal digit (R81): 0 to 9 are the bytes 48 to 57, A to F the bytes 65 to 70, a to f the bytes 97 to 102; any
-- other byte is no digit, and has the value 16
unfoldable pub hex_of : ℕ → ℕ
hex_of b = cond (is_from 48 57 b) (b - 48) (cond (is_from 65 70 b) (b - 55) (cond (is_from 97 102 b) (b - 87) 16))

-- every byte of a text is a hexadecimal digit (R81)
unfoldable pub all_hex : List ℕ → Bool
all_hex [] = true
all_hex (b ∷ text) = leb (hex_of b) 15 && all_hex text
