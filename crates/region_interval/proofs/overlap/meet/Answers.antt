-- `meet` meets its contract. Assumes nothing.
use Rattle.std.proofs.Common.{rules}
use Rattle.region_interval.proofs.Order.{meet_of}
use Rattle.region_interval.proofs.overlap.meet.Goals as goal

pub returns : goal.returns
returns c = search (rules, meet_of)
