-- `epf_lanes::rows::filter_planes` meets its contract. Steps 1 and 2 have the same lanes. Assumes nothing.
use Rattle.epf_lanes.proofs.Lanes.{tile-later}
use Rattle.epf_lanes.proofs.rows.filter_planes.Goals as goal

pub returns : goal.returns
returns g c = rw (tile-later c.args.step c.args.fields.now c.args.slopes.now c.args.src.now c.args.v c.args.top c.if-step-eq0.false) at c.rows-2.ensures
