-- `line::push_site` meets its contract: u goes on top of the sites that stay, where it takes over before the line ends.
-- Assumes nothing.
use Rattle.line.proofs.Push.{pushed-over, pushed-none}
use Rattle.line.proofs.push_site.Goals as goal

pub returns-then-from-costs : goal.returns-then-from-costs
returns-then-from-costs c = pushed-over c.requires c.find_spot-stay.ensures c.if-from-costs.true

pub returns : goal.returns
returns c = pushed-none c.requires c.find_spot-stay.ensures c.if-from-costs.false
