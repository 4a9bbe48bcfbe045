-- `growth::search` meets its contract.
-- Assumes nothing.
use Rattle.std.proofs.Common.{◌≡◌, ℕ, eqb, get_or, refl, ap, arith}
use Rattle.plane.specs.Search.{some_below}
use Rattle.plane.specs.Mask.{is_on}
use Rattle.plane.proofs.Search.{some_more}
use Rattle.plane.proofs.InPlace.{changed-none, changed-more, changed-end}
use Rattle.growth.specs.steps.Marks.{waits, near_deep, search_mark}
use Rattle.growth.proofs.search.Goals as goal

pub loop-i-init : goal.loop-i-init
unfolding some_below
loop-i-init c = record { changed = changed-none 0 _ _; known = refl }

pub loop-i-preserved : goal.loop-i-preserved
unfolding search_mark is_on
loop-i-preserved c =
    let l = c.loop-i in
    let a = c.args in
    let mark : ℕ → ℕ = search_mark a.photo.colours.now a.photo.reference (near_deep a.deep) a.marks.now in
    let v = c.search_mark-m.result in
    let same : get_or l.marks l.i 0 ≡ get_or a.marks.now l.i 0 = l.invariant.changed.back l.i (omega arith) in
    let e : v ≡ mark l.i = rw (← same) c.search_mark-m.ensures in record {
      changed = changed-more 0 mark _ l.marks l.i v l.invariant.changed (omega arith) e;
      known = some_more (λ (k : ℕ). eqb (mark k) waits) l.i l.found (eqb v waits) l.invariant.known (ap (λ (m : ℕ). eqb m waits) e);
    }

pub returns-clause-marks_after : goal.returns-clause-marks_after
returns-clause-marks_after c = let l = c.loop-i in changed-end 0 _ _ l.marks l.i l.invariant.changed (omega arith)
