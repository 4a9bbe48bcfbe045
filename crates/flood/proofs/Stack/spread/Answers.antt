-- `flood::Stack::spread` meets its contract.
-- Assumes nothing.
use Rattle.std.proofs.Common.{◌≡◌, ℕ, ◌+◌, ◌-◌, ◌%◌, ◌≤◌, Option, is_some, IfSome, SomeIff, ltb, length, ap, ◌∙◌, rules}
use Rattle.std.specs.Bool.{then_some}
use Rattle.flood.specs.steps.Flood.{State, state_of, visit_if, spread_from, on_top, popped, Spreads}
use Rattle.flood.proofs.Room.{difference-is, called-is, above, below, left, kept-above, kept-below, kept-left}
use Rattle.flood.proofs.Stack.spread.Goals as goal

-- the state after each of the first three visits, by what the calls ensure
module _ {w : ℕ} {s : State} (g : Spreads w s) where
  abbrev p : ℕ
  p = on_top s

  is-above : (o : Option ℕ) {t : State} → SomeIff o (w ≤ p) (p - w) → t ≡ visit_if o (popped s) → t ≡ above g
  is-above o q e = e ∙ ap (λ (r : Option ℕ). visit_if r (popped s)) (difference-is (p - w) o w p q)

  is-below : {o : Option ℕ} {t u : State} → u ≡ above g → o ≡ then_some (ltb (p + w) (length s.plane)) (p + w) → t ≡ visit_if o u → t ≡ below g
  is-below d q e = rw (d, q) at e

  is-left : (o : Option ℕ) {t u : State} → u ≡ below g → is_some o ≡ ltb 0 (p % w) → IfSome o (λ x. x ≡ p - 1) → t ≡ visit_if o u → t ≡ left g
  is-left o d q v e = rw (d, called-is (p - 1) o (ltb 0 (p % w)) q v) at e

pub visit-requires-2-clause-room : goal.visit-requires-2-clause-room
visit-requires-2-clause-room c =
    let g = c.requires in
    rw (is-above g c.checked_sub.result c.checked_sub.ensures c.visit.ensures.visited) (kept-above g).room

pub visit-requires-3-clause-room : goal.visit-requires-3-clause-room
visit-requires-3-clause-room c =
    let g = c.requires in
    let one = is-above g c.checked_sub.result c.checked_sub.ensures c.visit.ensures.visited in
    rw (is-below g one c.then_some.ensures c.visit-2.ensures.visited) (kept-below g).room

pub visit-requires-4-clause-room : goal.visit-requires-4-clause-room
visit-requires-4-clause-room c =
    let g = c.requires in
    let one = is-above g c.checked_sub.result c.checked_sub.ensures c.visit.ensures.visited in
    let two = is-below g one c.then_some.ensures c.visit-2.ensures.visited in
    let there : IfSome c.then.result (λ q. q ≡ on_top (state_of c.args.self.now c.args.out.now) - 1) = search rules in
    rw (is-left g c.then.result two c.then.ensures.variant there c.visit-3.ensures.visited) (kept-left g).room

pub returns-clause-spread : goal.returns-clause-spread
unfolding spread_from
returns-clause-spread c =
    let g = c.requires in
    let one = is-above g c.checked_sub.result c.checked_sub.ensures c.visit.ensures.visited in
    let two = is-below g one c.then_some.ensures c.visit-2.ensures.visited in
    let there : IfSome c.then.result (λ q. q ≡ on_top (state_of c.args.self.now c.args.out.now) - 1) = search rules in
    let three = is-left g c.then.result two c.then.ensures.variant there c.visit-3.ensures.visited in
    rw (three, c.then_some-2.ensures) at c.visit-4.ensures.visited
