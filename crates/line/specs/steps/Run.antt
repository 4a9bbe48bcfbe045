-- The line pass in parts, which the contracts of its functions cite. The line is answered run by run.
-- Assumes nothing.
use Rattle.std.specs.Prelude.{ℕ, ◌+◌, ◌-◌, ◌≤◌, ◌<◌, ◌≡◌, List, ◌⊎◌, length, get_or}
use Rattle.std.proofs.Math.Option.{Option, none, some}
use Rattle.line.specs.steps.Line.{no_place, best, place_of}

-- the place of an answer for a part of the line that starts at a
unfoldable pub place_from : ℕ → Option ℕ → ℕ
place_from a none = no_place
place_from a (some i) = a + i

-- the line pass over a part of the line that starts at base
abbrev pub Ran : List ℕ → List ℕ → ℕ → Type 0
Ran out costs base = (x : ℕ) → x < length costs → get_or out x 0 ≡ place_from base (best costs x)

-- e ends a run that holds x: it is the end of the line, or the place before it has cost 0
pub record Ends (costs : List ℕ) (x e : ℕ) : Type 0 where
  pub after : x < e
  pub within : e ≤ length costs
  pub bound : e < length costs → get_or costs (e - 1) 0 ≡ 0

-- x is not the first place, and the place behind it has cost 0
pub record Lone (costs : List ℕ) (x : ℕ) : Type 0 where
  pub after : 0 < x
  pub within : x + 1 < length costs
  pub bound : get_or costs (x + 1) 0 ≡ 0

-- the places before x are answered, and a run may start at x:
-- x is an end of the line, or it or the place before it has cost 0
pub record Done (costs out : List ℕ) (x : ℕ) : Type 0 where
  pub within : x ≤ length costs
  pub answered : (k : ℕ) → k < x → get_or out k 0 ≡ place_of (best costs k)
  pub bound : 0 < x → x < length costs → (get_or costs (x - 1) 0 ≡ 0) ⊎ (get_or costs x 0 ≡ 0)
