-- `labels::flatten` meets its contract. The loop's invariant: the labels below k have their numbers.
-- Assumes nothing.
use Rattle.std.proofs.Common.{◌≡◌, ◌+◌, cond, eqb, get_or, set, arith}
use Rattle.labels.proofs.Numbers.{count-few, none-numbered, one-numbered}
use Rattle.labels.proofs.flatten.Goals as goal

pub number-n-requires : goal.number-n-requires
number-n-requires c =
    let l = c.loop-k in
    let f = c.requires.forest in
    let g = l.invariant in
    record {
      inside = omega (arith, g.long, f.room);
      down = omega (arith, g.rest l.k (omega arith), f.down l.k (omega arith));
      small = omega (arith, g.count, count-few c.args.parents.now l.k (omega arith), c.ranges.m);
    }

pub loop-k-preserved : goal.loop-k-preserved
loop-k-preserved c =
    let l = c.loop-k in
    let v = c.number-n in
    let p = get_or l.parents l.k 0 in
    let e : v.new.parents ≡ set l.parents l.k (cond (eqb p l.k) (l.n + 1) (get_or l.parents p 0)) = v.ensures.parents_after in
    let d : v.result ≡ cond (eqb p l.k) (l.n + 1) l.n = v.ensures.value in
    rw (e, d) (one-numbered c.args.parents.now c.args.m c.requires l.parents l.k l.n (omega arith) (omega arith) l.invariant)

pub loop-k-init : goal.loop-k-init
loop-k-init c = none-numbered c.args.parents.now c.args.m c.requires
