use Prim.Native.Nat.{◌+◌}
use native.Mathlib.Omega.{arith}
use Rattle.planes.proofs.Rect.{rows-none}
use Rattle.epf_lanes.proofs.Lanes.{row-below}
use Rattle.epf_lanes.proofs.rows.rows.Goals as goal

pub loop-r-init : goal.loop-r-init
loop-r-init g c = (omega arith, rows-none c.args.l.image.width c.args.l.image.height (c.args.l.left + c.args.rect.x) c.args.rect.cols (c.args.l.top + c.args.rect.y) _ c.args.dst.now g.row.N)

pub loop-r-preserved : goal.loop-r-preserved
loop-r-preserved g c = (
  omega (arith, c.loop-r-test.true),
  row-below g.row.STEP c.args.fields.now c.args.slopes.now c.args.src.now c.args.v c.args.l g.row.N c.args.rect c.args.dst.now _ _ c.requires.room c.args.top _ c.loop-r.r c.loop-r-test.true c.first_slope-first.ensures c.loop-r.invariant.1 c.row.ensures,
)
