-- `line::find_spot` meets its contract: the test says whether the top is as good as u at its own start.
-- Assumes nothing.
use Rattle.std.proofs.Common.{◌≡◌, ◌-◌, arith}
use Rattle.line.specs.steps.Envelope.{takeover_at}
use Rattle.line.proofs.find_spot.Goals as goal

pub returns-then-low-far : goal.returns-then-low-far
unfolding takeover_at
returns-then-low-far c = record {
  dropped = record {
    fewer = omega arith;
    worse = λ q g h. c.loop-top.invariant q (omega arith) h;
    better = λ p e. (let k : p ≡ c.loop-top.top - 1 = omega arith in rw k (omega arith));
  };
  alone = λ e. absurd (omega arith);
  over = λ p e.
      (let k : p ≡ c.loop-top.top - 1 = omega arith in rw k (cc (c.takeover.ensures, c.high-most.ensures, c.high-low.ensures)));
}
