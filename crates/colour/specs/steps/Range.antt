-- Colours from 0 to 1: what the test of closeness is given, and what the test of a list of colours answers.
-- Assumes nothing.
use Rattle.std.specs.Prelude.{◌≡◌, Bool, true, List, Float}
use Rattle.colour.specs.declared.Rgb.{Rgb}
use Rattle.colour.specs.Number.{Binary64}
use Rattle.colour.specs.Colour.{colours_ok, rgb_ok}

-- two colours whose channels are from 0 to 1
pub record InRange (p q : Rgb) : Type 0 where
  pub first : rgb_ok p ≡ true
  pub second : rgb_ok q ≡ true

-- whether every number of a list is from 0 to 1; and, since they stand in memory, all are binary64 numbers
pub record Checked (l : List Float) (r : Bool) : Type 0 where
  pub answer : r ≡ colours_ok l
  pub held : Binary64 l
