-- Numbers that are kept in a buffer of 32-bit numbers, two for each: the halves of its bit pattern, the lower one first.
-- Assumes nothing.
use Rattle.std.specs.Prelude.{◌≡◌, true, List, ℕ, ◌+◌, ◌*◌, ◌/◌, ◌<◌, T, length, get_or, Float}
use Rattle.std.specs.Float.{binary64}
use Rattle.std.specs.Float.Ieee.{fits, of_bits}
use Rattle.plane.specs.Plane.{table}
use Rattle.colour.specs.Colour.{colour_ok}

-- how many patterns 32 bits have
abbrev pub half : ℕ
half = 4294967296

-- number k of a buffer
unfoldable pub float_at : List ℕ → ℕ → Float
float_at values k = of_bits binary64 (get_or values (2 * k + 1) 0 * half + get_or values (2 * k) 0)

-- all numbers of a buffer
unfoldable pub floats_of : List ℕ → List Float
floats_of values = table (float_at values) 0 (length values / 2)

-- a binary64 number from 0 to 1, and a place of a list where it can be written
pub record Slot (l : List Float) (k : ℕ) (x : Float) : Type 0 where
  pub inside : k < length l
  pub held : T (fits binary64 x)
  pub ok : colour_ok x ≡ true
