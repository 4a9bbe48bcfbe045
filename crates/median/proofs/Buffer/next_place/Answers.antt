-- `median::Buffer::next_place` meets its contract.
-- Assumes nothing.
use Rattle.std.proofs.Common.{ap, ◌∙◌, add-one, arith}
use Rattle.colour.specs.Number.{plus_zero}
use Rattle.median.specs.steps.Values.{floats_of}
use Rattle.median.proofs.Values.{floats-held}
use Rattle.median.proofs.Places.{next-same, next-above}
use Rattle.median.proofs.Buffer.next_place.Goals as goal

pub returns-then-k-at_most : goal.returns-then-k-at_most
returns-then-k-at_most c =
    let a = c.args in
    let v = a.self.halves.now in
    rw (add-one a.k) (next-same (floats_of v) (floats-held v) a.self.in_range a.k (omega (arith, c.requires.inside)) a.lo c.requires.first (omega (arith, c.at_most.ensures)))

pub returns-else-k-at_most : goal.returns-else-k-at_most
returns-else-k-at_most c =
    let a = c.args in
    let v = a.self.halves.now in
    c.plus_zero.ensures
    ∙ ap plus_zero c.least_above.ensures
    ∙ rw (add-one a.k) (next-above (floats_of v) (floats-held v) a.self.in_range a.k (omega (arith, c.requires.inside)) a.lo c.requires.first (omega (arith, c.at_most.ensures)))
