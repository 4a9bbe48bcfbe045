-- The stack of the line pass, which the contracts of its parts cite.
-- Its site q is the best of the first u places from its own start on, up to the next start.
-- Assumes nothing.
use Rattle.std.specs.Prelude.{ℕ, ◌+◌, ◌*◌, ◌-◌, ◌/◌, ◌≤◌, ◌<◌, ◌≡◌, List, length, get_or, slice_index}
use Rattle.line.specs.steps.Line.{most_cost, most_length, Site, value_at}
use Rattle.line.specs.steps.Lent.{Lent}

-- i is the first best site for x among the first u places
pub record Leads (costs : List ℕ) (u x i : ℕ) : Type 0 where
  pub inside : i < u
  pub site : Site costs i
  pub least : (j : ℕ) → j < u → Site costs j → value_at costs x i ≤ value_at costs x j
  pub first : (j : ℕ) → j < i → Site costs j → value_at costs x i < value_at costs x j

-- the stack after the first u places, count sites high: the starts t rise from 0, and each site s leads from its start up to the next
pub record Stack (costs : List ℕ) (s t : ℕ → ℕ) (u count : ℕ) : Type 0 where
  pub small : count ≤ u
  pub empty : count ≡ 0 → (j : ℕ) → j < u → Site costs j → ⊥
  pub start : 0 < count → t 0 ≡ 0
  pub inside : (q : ℕ) → q < count → t q < length costs
  pub rises : (q : ℕ) → q + 1 < count → t q < t (q + 1)
  pub leads : (q : ℕ) → q < count → (x : ℕ) → t q ≤ x → x < length costs → (q + 1 < count → x < t (q + 1))
      → Leads costs u x (s q)

-- u is a site, and the stack is that of the places before it: its starts stand in out
pub record Ready (out costs stack : List ℕ) (count u : ℕ) : Type 0 where
  pub lent : Lent out costs stack
  pub inside : u < length costs
  pub cost : Site costs u
  pub whole : Stack costs (slice_index stack) (slice_index out) u count

-- cost and square of a place
abbrev pub height : List ℕ → ℕ → ℕ
height costs i = get_or costs i 0 + i * i

-- site q is as good as u at its own start
abbrev pub Stays : List ℕ → (ℕ → ℕ) → (ℕ → ℕ) → ℕ → ℕ → Type 0
Stays costs s t u q = height costs (s q) + t q * (2 * (u - s q)) ≤ height costs u

-- r sites are left when those on top are taken off of which P does not hold
pub record Dropped (P : ℕ → Type 0) (count r : ℕ) : Type 0 where
  pub fewer : r ≤ count
  pub worse : (q : ℕ) → r ≤ q → q < count → P q → ⊥
  pub better : (p : ℕ) → r ≡ p + 1 → P p

-- the first place at which u is strictly better than i, which lies to its left
unfoldable pub takeover_at : List ℕ → ℕ → ℕ → ℕ
takeover_at costs i u = (height costs u - height costs i) / (2 * (u - i)) + 1

-- where u goes on the stack: on top of the r sites that stay, and it leads from w on
pub record Placed (costs : List ℕ) (s t : ℕ → ℕ) (count u r w : ℕ) : Type 0 where
  pub dropped : Dropped (Stays costs s t u) count r
  pub alone : r ≡ 0 → w ≡ 0
  pub over : (p : ℕ) → r ≡ p + 1 → w ≡ takeover_at costs (s p) u

-- from x up to r, which is no further than the end of the line, no place has a site
pub record Skips (costs : List ℕ) (x r : ℕ) : Type 0 where
  pub after : x ≤ r
  pub within : r ≤ length costs
  pub none : (j : ℕ) → x ≤ j → j < r → most_cost < get_or costs j 0

-- a stack whose segments are as long together as out, where their starts stand
pub record Segments (out stack : List ℕ) (count base : ℕ) : Type 0 where
  pub low : base + length out ≤ 2 * most_length
  pub some_site : 0 < count
  pub few : count ≤ length out
  pub room : count ≤ length stack
  pub start : get_or out 0 0 ≡ 0
  pub inside : (q : ℕ) → q < count → get_or out q 0 < length out
  pub rises : (q : ℕ) → q + 1 < count → get_or out q 0 < get_or out (q + 1) 0
  pub site : (q : ℕ) → q < count → get_or stack q 0 < length out

-- v is the site of the segment that holds x, counted from base
pub record InSegment (out stack : List ℕ) (count base x v : ℕ) : Type 0 where
  pub q : ℕ
  pub inside : q < count
  pub from : get_or out q 0 ≤ x
  pub until : q + 1 < count → x < get_or out (q + 1) 0
  pub site : v ≡ base + get_or stack q 0
