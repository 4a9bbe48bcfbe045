-- `flood::Stack::seed_border` meets its contract. The loop's invariant: what is left of the border list is still to be visited.
-- Assumes nothing.
use Rattle.std.proofs.Common.{◌≡◌, ℕ, ◌+◌, ◌<◌, ◌≤◌, Some, List, length, get_or, drop, sym, refl, ◌∙◌, add-one, arith, drop_of_length-le, drop-cons}
use Rattle.plane.specs.steps.Sides.{Sides}
use Rattle.outline.specs.Border.{border_list}
use Rattle.flood.specs.steps.Flood.{State, visit_if, seeded, Closed}
use Rattle.flood.proofs.Border.{border-in}
use Rattle.flood.proofs.Room.{first-room, if_kept, same-twice}
use Rattle.flood.proofs.Stack.seed_border.Goals as goal

-- a pixel of a list is visited, and the rest is left
rest : (l : List ℕ) (k : ℕ) (s t : State) {q : ℕ} → k < length l → q ≡ get_or l k 0 → t ≡ visit_if (Some q) s
    → seeded (drop k l) s ≡ seeded (drop (k + 1) l) t
unfolding seeded visit_if
rest l k s t h d e = rw (drop-cons l k 0 h, add-one k, e, d)

-- and nothing in the end
none_left : (l : List ℕ) (k : ℕ) (s : State) → length l ≤ k → seeded (drop k l) s ≡ s
unfolding seeded
none_left l k s h = rw (drop_of_length-le l {i = k} h)

-- the pixel to visit is in the plane
pixel-in : {out : List ℕ} {h w q : ℕ} (k : ℕ) → Sides h w → Closed out h w → k < length (border_list h w)
    → q ≡ get_or (border_list h w) k 0 → q < length out
pixel-in k s g l e = omega (arith, e, border-in k s l, g.output)

pub loop-k-init : goal.loop-k-init
loop-k-init c =
    let a = c.args in
    let room = first-room a.self.now.pixels.now a.out.now a.size.h a.size.w a.size.sides c.requires.closed c.requires.stack_len in
    record {
      kept = record { room = rw c.requires.empty room; long = refl };
      to_visit = refl;
      same_buffer = record { reference = refl; size = refl };
    }

pub visit-requires-clause-pixel_in_bounds : goal.visit-requires-clause-pixel_in_bounds
visit-requires-clause-pixel_in_bounds c =
    omega (arith, pixel-in c.loop-k.k c.args.size.sides c.requires.closed (omega arith) c.border_pixel.ensures, c.loop-k.invariant.kept.long)

pub loop-k-preserved : goal.loop-k-preserved
loop-k-preserved c =
    let l = c.loop-k in
    let i = l.invariant in
    let v = c.visit.ensures in
    let inside = pixel-in l.k c.args.size.sides c.requires.closed (omega arith) c.border_pixel.ensures in
    record {
      kept = rw v.visited (if_kept (Some c.border_pixel.result) inside i.kept);
      to_visit = i.to_visit ∙ rest (border_list c.args.size.h c.args.size.w) l.k _ _ (omega arith) c.border_pixel.ensures v.visited;
      same_buffer = same-twice i.same_buffer v.same_buffer;
    }

pub returns-clause-seeded : goal.returns-clause-seeded
returns-clause-seeded c =
    let l = c.loop-k in
    sym (l.invariant.to_visit ∙ none_left (border_list c.args.size.h c.args.size.w) l.k _ (omega arith))
