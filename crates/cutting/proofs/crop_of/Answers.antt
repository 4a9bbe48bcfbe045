-- `cutting::crop_of` meets its contract.
-- Assumes nothing.
use mathlib.Core.Path.{◌≡◌, sym, ap, ◌∙◌}
use mathlib.Core.Bool.{Bool, ◌&&◌}
use Prim.Native.Nat.{◌*◌}
use Rattle.plane.specs.Mask.{some_off}
use Rattle.plane.specs.Box.{whole_of}
use Rattle.outline.specs.Cut.{crop_of}
use Rattle.cutting.proofs.crop_of.Goals.{After-some_off}
use Rattle.cutting.proofs.crop_of.Goals as goal

-- whether the mask's box is asked for
asked : (c : After-some_off) → let m = c.args.mask in
    (c.args.cropping && c.some_off.result) ≡ (c.args.cropping && some_off m.pixels.now (m.size.h * m.size.w))
asked c = ap (λ (b : Bool). c.args.cropping && b) (c.some_off.ensures ∙ rw c.args.mask.whole)

pub returns-then-asked : goal.returns-then-asked
unfolding crop_of
returns-then-asked c = rw (sym (asked c.before.before) ∙ c.if-asked.true) c.box_of.ensures

pub returns : goal.returns
unfolding crop_of whole_of
returns c = rw (sym (asked c.before) ∙ c.if-asked.false)
