-- `window::Around::search` meets its contract.
-- Assumes nothing.
use Rattle.std.proofs.Common.{◌≡◌, ◌+◌, min, arith}
use Rattle.window.proofs.Searching.{started, finished}
use Rattle.window.proofs.Around.search.Goals as goal

pub loop-i-init : goal.loop-i-init
loop-i-init c =
    let a = c.args in
    started a.self.deep.pixels.now a.self.deep.size.h a.self.deep.size.w a.self.y a.self.x c.saturating_sub-i.result (omega (arith, c.saturating_sub-i.ensures))

pub returns : goal.returns
returns c =
    let a = c.args in
    let l = c.loop-i in
    let e : l.i ≡ min a.self.deep.size.w (a.self.x + 7) = omega arith in
    finished a.self.deep.pixels.now a.self.deep.size.h a.self.deep.size.w a.self.y a.self.x l.i l.best.far l.best.at e l.invariant
