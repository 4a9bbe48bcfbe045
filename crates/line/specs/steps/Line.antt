-- The line pass: sites on a line, each with a cost; each place of the line gets the first site i with the least cost(i) + (x - i)².
-- Assumes nothing.
use Rattle.std.specs.Prelude.{ℕ, ◌+◌, ◌*◌, ◌≤◌, cond, List, leb, length, get_or}
use Rattle.std.proofs.Math.Option.{Option, none, some}
use Rattle.plane.specs.Plane.{apart, table}
use Rattle.plane.specs.steps.Sides.{longest_side}
use Rattle.line.specs.steps.FirstLeast.{first_least}

-- the largest cost of a site (the square of 65,535); a place with a larger number has no site
abbrev pub most_cost : ℕ
most_cost = 4294836225

-- the longest line
abbrev pub most_length : ℕ
most_length = longest_side

-- what is written where the line has no site
abbrev pub no_place : ℕ
no_place = 4294967295

-- the cost of place i and the square of its distance from x
unfoldable pub value_at : List ℕ → ℕ → ℕ → ℕ
value_at costs x i = get_or costs i 0 + apart x i * apart x i

abbrev pub Site : List ℕ → ℕ → Type 0
Site costs i = get_or costs i 0 ≤ most_cost

-- the same, or none where place i has no site
unfoldable pub offer : List ℕ → ℕ → ℕ → Option ℕ
offer costs x i = cond (leb (get_or costs i 0) most_cost) (some (value_at costs x i)) none

-- the best site for x
unfoldable pub best : List ℕ → ℕ → Option ℕ
best costs x = first_least (offer costs x) (length costs)

-- an answer as the number that is written
unfoldable pub place_of : Option ℕ → ℕ
place_of none = no_place
place_of (some i) = i

-- the pass over the whole line
unfoldable pub line_of : List ℕ → List ℕ
line_of costs = table (λ (x : ℕ). place_of (best costs x)) 0 (length costs)
