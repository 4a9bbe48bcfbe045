-- `growth::run` meets its contract.
-- Assumes nothing.
use Rattle.std.proofs.Common.{◌≡◌, ◌-◌}
use Rattle.outline.specs.Growth.{growth_of}
use Rattle.growth.specs.steps.Marks.{Planes}
use Rattle.growth.proofs.run.Given as goal

abbrev pub invariant-loop : goal.invariant-loop
invariant-loop l =
    let p = l.photo in record {
      planes : Planes p.size.h p.size.w l.nearest l.shallow l.deep l.marks l.back;
      grown : growth_of p.colours.now p.reference p.size.h p.size.w l.passes l.initial.back
          ≡ growth_of p.colours.now p.reference p.size.h p.size.w (l.passes - l.counter) l.back;
    }
