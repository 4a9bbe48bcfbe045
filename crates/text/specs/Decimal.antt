-- Decimal numbers in text: how they are read and how they are written. Past the end of a text every byte is read as 0.
-- Assumes nothing.
use Rattle.std.specs.Prelude.{ℕ, zero, suc, ◌+◌, ◌-◌, ◌*◌, ◌/◌, ◌%◌, Bool, true, cond, ◌&&◌, List, [], ◌∷◌, ◌++◌, leb, get_or, take, drop}

-- a byte from '0' to '9' (R38)
unfoldable pub is_digit : ℕ → Bool
is_digit b = leb 48 b && leb b 57

-- every byte is a digit (R38)
unfoldable pub all_digits : List ℕ → Bool
all_digits [] = true
all_digits (b ∷ l) = is_digit b && all_digits l

-- the value of digits that follow a number with the value v (R38)
unfoldable pub value_from : ℕ → List ℕ → ℕ
value_from v [] = v
value_from v (b ∷ l) = value_from (10 * v + (b - 48)) l

abbrev pub value_of : List ℕ → ℕ
value_of l = value_from 0 l

-- how many digits stand from a place on, counted up to most (R38)
unfoldable pub digits_upto : ℕ → List ℕ → ℕ → ℕ
digits_upto zero text at = 0
digits_upto (suc most) text at = cond (is_digit (get_or text at 0)) (suc (digits_upto most text (suc at))) 0

-- the value of these digits; 0 where there is none (R38)
unfoldable pub number_upto : ℕ → List ℕ → ℕ → ℕ
number_upto most text at = value_of (take (digits_upto most text at) (drop at text))

-- a number in decimal: its last digit, after the digits of a tenth of it where it is 10 or more. Each tenth is less than the
-- number, so as many steps as the number counts suffice (R41)
unfoldable pub decimal_upto : ℕ → ℕ → List ℕ
decimal_upto zero n = (48 + n) ∷ []
decimal_upto (suc k) n = let rest = decimal_upto k (n / 10) ++ ((48 + n % 10) ∷ []) in cond (leb 10 n) rest ((48 + n) ∷ [])

unfoldable pub decimal : ℕ → List ℕ
decimal n = decimal_upto n n
