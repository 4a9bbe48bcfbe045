-- `flood::Stack::visit` meets its contract.
-- Assumes nothing.
use Rattle.std.proofs.Common.{get_or, eq-eqb, ne_eqb}
use Rattle.flood.specs.steps.Flood.{state_of, pushed, visited, visit_if}
use Rattle.flood.proofs.Room.{room_for}
use Rattle.flood.proofs.Stack.visit.Goals as goal

pub bounds-self-self : goal.bounds-self-self
bounds-self-self c =
    let a = c.args in
    let inside = rw c.in-Some.is at c.requires.pixel_in_bounds in
    room_for (state_of a.self.now a.out.now) c.in-Some.q c.requires.room inside c.if-out-q-eq-CLOSE.true

pub returns-in-Some-clause-visited : goal.returns-in-Some-clause-visited
unfolding visit_if visited pushed
returns-in-Some-clause-visited c = rw (c.in-Some.is, eq-eqb (get_or c.args.out.now c.in-Some.q 0) 1 c.if-out-q-eq-CLOSE.true)

pub returns-else-out-q-eq-CLOSE-clause-visited : goal.returns-else-out-q-eq-CLOSE-clause-visited
unfolding visit_if visited
returns-else-out-q-eq-CLOSE-clause-visited c = rw (c.in-Some.is, ne_eqb (get_or c.args.out.now c.in-Some.q 0) 1 c.if-out-q-eq-CLOSE.false)
