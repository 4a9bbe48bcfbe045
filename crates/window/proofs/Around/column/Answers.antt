-- `window::Around::column` meets its contract.
-- Assumes nothing.
use Rattle.std.proofs.Common.{arith}
use Rattle.plane.specs.Plane.{apart}
use Rattle.line.proofs.Squares.{square_le}
use Rattle.window.proofs.Searching.{passed, taken}
use Rattle.window.proofs.Around.column.Goals as goal

pub nearest_row-requires-clause-across_bound : goal.nearest_row-requires-clause-across_bound
nearest_row-requires-clause-across_bound c =
    square_le {a = c.abs_diff-dx.result} {b = 6} (omega (arith, c.abs_diff-dx.ensures))

pub returns-in-None : goal.returns-in-None
unfolding apart
returns-in-None c = passed c.abs_diff-dx.ensures c.requires.searched c.in-None.ensures.none

pub returns-in-Some : goal.returns-in-Some
unfolding apart
returns-in-Some c =
    rw c.abs_diff-dy.ensures (taken c.abs_diff-dx.ensures c.requires.searched c.in-Some.j c.requires.column c.in-Some.ensures.found)
