-- `growth::run` meets its contract.
-- Assumes nothing.
use Rattle.std.proofs.Common.{◌-◌, ◌+◌, sym, ◌∙◌, rules, arith}
use Rattle.growth.proofs.Passes.{growth-more, growth-last, growth-done}
use Rattle.growth.proofs.run.Goals as goal
use Rattle.growth.proofs.run.Goals.{else-loop-test, then-loop-test+then-not-pass}

pub loop-preserved : goal.loop-preserved
loop-preserved c =
    let a = c.args in
    let p = a.photo in
    let l = c.loop in
    record {
      planes = search rules;
      grown =
          l.invariant.grown
          ∙ growth-more p.colours.now p.reference p.size.h p.size.w l.back (a.passes - l.counter) (a.passes - (l.counter + 1)) _ (omega arith)
          (sym c.pass.ensures.value ∙ c.if-not-pass.false) c.pass.ensures.back_after;
    }

pub returns : goal.returns
returns c =
    let a = c.args in
    let p = a.photo in
    let l = c.loop in
    c.tidy.ensures ∙ elim c.loop-test.branch [
      | else-loop-test w ↦
          rw w.back-is (growth-done p.colours.now p.reference p.size.h p.size.w l.back (a.passes - l.counter) _ (omega arith) l.invariant.planes.back_long)
          ∙ sym l.invariant.grown
      | then-loop-test+then-not-pass w ↦
          growth-last p.colours.now p.reference p.size.h p.size.w l.back (a.passes - l.counter) _ _ (omega arith) (omega (arith, c.loop-test.auto.back, l.invariant.planes.back_long))
          (sym w.pass.ensures.value ∙ w.if-not-pass.true) (w.back-is ∙ w.pass.ensures.back_after)
          ∙ sym l.invariant.grown
    ]
