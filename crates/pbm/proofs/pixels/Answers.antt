-- `pbm::pixels` meets its contract.
-- Assumes nothing.
use native.Mathlib.Omega.{arith}
use Rattle.text.proofs.Written.{writes_none, writes-more, writes_as}
use Rattle.pbm.specs.Text.{pixels_text}
use Rattle.pbm.proofs.Lengths.{pixels-more, pixels-short}
use Rattle.pbm.proofs.pixels.Goals as goal

pub loop-i-init : goal.loop-i-init
loop-i-init c = unfold pixels_text in writes_none

pub pixel-requires : goal.pixel-requires
pixel-requires c =
    let a = c.args in
    let done = c.loop-i.invariant in
    let short = pixels-short a.mask.now a.w c.loop-i.i in
    (c.requires.0, omega arith, omega (arith, short, done.same_length, done.wrote.end_is, c.requires.1))

pub loop-i-preserved : goal.loop-i-preserved
loop-i-preserved c =
    let a = c.args in writes_as (pixels-more a.mask.now a.w c.loop-i.i) (writes-more c.loop-i.invariant c.pixel.ensures)
