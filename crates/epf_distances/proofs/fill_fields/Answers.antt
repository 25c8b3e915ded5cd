use native.Mathlib.Omega.{arith}
use Rattle.epf_distances.proofs.Loops.{fields-more, differences-more}
use Rattle.epf_distances.proofs.fill_fields.Goals as goal

pub loop-h-preserved : goal.loop-h-preserved
loop-h-preserved g c = (
  omega arith,
  fields-more g.row.STEP _ c.args.src.now c.args.v c.args.rows c.args.cols _ _ _ c.loop-h.h c.loop-h.invariant.1 c.field.ensures.fields,
  differences-more g.row.STEP g.row.N c.args.src.now c.args.v c.args.rows c.args.cols _ _ _ c.loop-h.h _ c.loop-h.invariant.2 c.field.ensures.differences,
)
