-- `reaching` meets its contract. Assumes nothing.
use Rattle.std.proofs.Common.{rules}
use Rattle.region_interval.proofs.Axis.reaching.Goals as goal

pub returns : goal.returns
returns c = search rules
