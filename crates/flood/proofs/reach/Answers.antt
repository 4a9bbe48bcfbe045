-- `flood::reach` meets its contract. The loop's invariant: the flood of the plane that was passed goes on.
-- Assumes nothing.
use Rattle.std.proofs.Common.{refl, ap, arith}
use Rattle.flood.specs.steps.Flood.{state_of}
use Rattle.flood.proofs.Room.{total, spread-total, same-twice}
use Rattle.flood.proofs.Reached.{first-going, spread-ready, spread-going, ground-marked}
use Rattle.flood.proofs.reach.Goals as goal

pub loop-stack-init : goal.loop-stack-init
loop-stack-init c =
    let a = c.args in
    record {
      going = first-going a.out.now a.size.h a.size.w a.size.sides c.requires.closed a.stack.now c.requires.stack_len _ c.seed_border.ensures.seeded;
      same_buffer = record { reference = refl; size = refl };
    }

pub spread-requires : goal.spread-requires
spread-requires c = spread-ready _ c.args.size.h _ c.args.size.sides c.requires.closed _ c.loop-stack.invariant.going c.loop-stack-test.true

pub loop-stack-smaller : goal.loop-stack-smaller
unfolding total
loop-stack-smaller c =
    let l = c.loop-stack in
    let size = c.args.size in
    let ready = spread-ready _ size.h _ size.sides c.requires.closed (state_of l.stack l.out) l.invariant.going c.loop-stack-test.true in
    omega (arith, ap total c.spread.ensures.spread, spread-total ready)

pub loop-stack-preserved : goal.loop-stack-preserved
loop-stack-preserved c =
    let i = c.loop-stack.invariant in
    let v = c.spread.ensures in
    record {
      going = spread-going _ _ _ c.args.size.sides c.requires.closed _ i.going c.loop-stack-test.true v.spread;
      same_buffer = same-twice i.same_buffer v.same_buffer;
    }

pub returns : goal.returns
returns c =
    let l = c.loop-stack in
    let size = c.args.size in
    ground-marked _ size.h size.w size.sides c.requires.closed (state_of l.stack l.out) l.invariant.going (omega arith)
