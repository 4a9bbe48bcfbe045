-- From the stack's terms to the definition's: a site that leads among all places is what the walk answers; a line is given by its places.
-- Assumes nothing.
use mathlib.Core.Path.{◌≡◌}
use mathlib.Core.List.{List}
use mathlib.Core.Option.{none, some}
use mathlib.Core.Logic.{⊎_elim}
use Prim.Native.Nat.{ℕ, ◌≤◌, ◌<◌}
use native.Mathlib.Omega.{arith}
use lib.ListN.{length, get_or}
use borrow.Author.Tests.{le-leb, lt-leb}
use Rattle.line.specs.steps.Line.{most_cost, Site, value_at, offer, best, place_of, line_of}
use Rattle.line.specs.steps.Envelope.{Leads}
use Rattle.std.proofs.lemmas.Bool.{cases_lt}
use Rattle.plane.proofs.Plane.{table_at, table_is}
use Rattle.line.proofs.Walk.{clash, same, walk_is}

module _ (costs : List ℕ) where
  pub line_at : (x : ℕ) → x < length costs → get_or (line_of costs) x 0 ≡ place_of (best costs x)
  unfolding line_of
  line_at x h = table_at (λ (y : ℕ). place_of (best costs y)) (length costs) x 0 h

  -- a list is the line where its places are
  pub line-is : (out : List ℕ) → length out ≡ length costs
      → ((x : ℕ) → x < length costs → get_or out x 0 ≡ place_of (best costs x)) → out ≡ line_of costs
  unfolding line_of
  line-is out e h = table_is (λ (y : ℕ). place_of (best costs y)) (length costs) out 0 e h

  pub offer-site : (x i : ℕ) → Site costs i → offer costs x i ≡ some (value_at costs x i)
  unfolding offer
  offer-site x i h = rw (le-leb (get_or costs i 0) most_cost h)

  pub offer-none : (x i : ℕ) → most_cost < get_or costs i 0 → offer costs x i ≡ none
  unfolding offer
  offer-none x i h = rw (lt-leb (get_or costs i 0) most_cost h)

  -- a number that is offered is a site's
  pub offered : (x j w : ℕ) → offer costs x j ≡ some w → (Site costs j) × (w ≡ value_at costs x j)
  offered x j w e =
      ⊎_elim {C = (Site costs j) × (w ≡ value_at costs x j)}
      (λ (h : most_cost < get_or costs j 0). clash (offer costs x j) w (offer-none x j h) e)
      (λ (h : get_or costs j 0 ≤ most_cost). (h, same (offer costs x j) w (value_at costs x j) e (offer-site x j h)))
      (cases_lt most_cost (get_or costs j 0))

  -- the leader is the best
  pub leader : (x i : ℕ) → Leads costs (length costs) x i → best costs x ≡ some i
  unfolding best
  leader x i h =
      walk_is (offer costs x) (length costs) (some i) (
        value_at costs x i,
        record {
          inside = h.inside;
          here = offer-site x i h.site;
          least = λ j w l e. (let o = offered x j w e in let z = h.least j l o.0 in omega arith);
          first = λ j w l e. (let o = offered x j w e in let z = h.first j l o.0 in omega arith);
        },
      )

  -- a line with no site
  pub no-leader : ((j : ℕ) → j < length costs → Site costs j → ⊥) → (x : ℕ) → best costs x ≡ none
  unfolding best
  no-leader h x =
      walk_is (offer costs x) (length costs) none
      (λ j l.
      offer-none x j
      (⊎_elim (λ (z : most_cost < get_or costs j 0). z) (λ (z : Site costs j). absurd (h j l z)) (cases_lt most_cost (get_or costs j 0))))
