-- `flood::Stack::seed_border` meets its contract. The loop's invariant: what is left of the border list is still to be visited.
-- Assumes nothing.
use Rattle.std.proofs.Common.{◌≡◌, length, drop}
use Rattle.plane.specs.steps.Buffer.{SameBuffer}
use Rattle.outline.specs.Border.{border_list}
use Rattle.flood.specs.steps.Flood.{state_of, seeded}
use Rattle.flood.proofs.Room.{Kept}
use Rattle.flood.proofs.Stack.seed_border.Given as goal

abbrev pub invariant-loop-k : goal.invariant-loop-k
invariant-loop-k l = record {
  kept : Kept (length l.initial.out) (state_of l.self l.out);
  to_visit : seeded (border_list l.size.h l.size.w) (state_of l.initial.self l.initial.out)
      ≡ seeded (drop l.k (border_list l.size.h l.size.w)) (state_of l.self l.out);
  same_buffer : SameBuffer l.initial.self.pixels l.self.pixels;
}
