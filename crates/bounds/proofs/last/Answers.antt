-- `bounds::last` meets its contract.
-- Assumes nothing.
use Rattle.std.proofs.Common.{◌≡◌, ℕ, ◌<◌, false, length, rules, MatchOption}
use Rattle.std.proofs.iter.runs.Made.{chains}
use Rattle.plane.specs.Plane.{on}
use Rattle.plane.specs.Mask.{is_on}
use Rattle.plane.proofs.Bounds.{Last}
use Rattle.bounds.proofs.Rows.{last_told}
use Rattle.bounds.proofs.last.Goals as goal

pub returns : goal.returns
unfolding is_on on
returns c =
    let line = c.args.line.now in
    let n = length line in
    let told : MatchOption c.rposition.result ((k : ℕ) → k < n → is_on line k ≡ false) (Last n (is_on line)) = search (rules, chains) in
    last_told _ n _ told
