-- `epf_lanes::weights::weights` meets its contract. Assumes nothing.
use mathlib.Core.Path.{refl}
use Rattle.epf_lanes.proofs.Lanes.{four-in, four-weighed, twelve-weighed}
use Rattle.epf_lanes.proofs.weights.weights.Goals as goal

pub returns-then-this-ne0 : goal.returns-then-this-ne0
returns-then-this-ne0 g c =
    four-weighed g.row.STEP c.args.fields.now c.args.slopes c.args.r c.args.i c.if-this-ne0.true _ _
    (four-in g.row.STEP c.args.fields.now c.args.slopes c.args.r c.args.i _ 0 _ refl c.four-u.ensures) c.summed-cross.ensures

pub returns : goal.returns
returns g c =
    twelve-weighed g.row.STEP c.args.fields.now c.args.slopes c.args.r c.args.i c.if-this-ne0.false _ _ _ _ _ _
    (four-in g.row.STEP c.args.fields.now c.args.slopes c.args.r c.args.i _ 0 _ refl c.four-u.ensures)
    (four-in g.row.STEP c.args.fields.now c.args.slopes c.args.r c.args.i _ 4 _ refl c.four-v.ensures)
    (four-in g.row.STEP c.args.fields.now c.args.slopes c.args.r c.args.i _ 8 _ refl c.four-w.ensures)
    c.summed-cross.ensures c.summed.ensures c.summed-sum.ensures
