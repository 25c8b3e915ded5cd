use mathlib.Core.Path.{◌≡◌}
use Prim.Native.Nat.{◌+◌, min}
use native.Mathlib.Omega.{arith}
use Rattle.epf_lanes.specs.Lanes.{row_of}
use Rattle.planes.proofs.Rect.{columns-none}
use Rattle.epf_lanes.proofs.Lanes.{vector-beside}
use Rattle.epf_lanes.proofs.rows.row.Goals as goal

pub loop-b-init : goal.loop-b-init
loop-b-init g c =
    let z : min 0 c.args.rect.cols ≡ 0 = omega arith in
    rw z (columns-none c.args.l.image.width c.args.l.image.height (c.args.l.left + c.args.rect.x) (c.args.l.top + c.args.rect.y + c.args.r) 1
    (row_of g.row.STEP c.args.fields.now c.args.slopes.now c.args.src.now c.args.v c.args.first c.args.r) c.args.dst.now g.row.N)

pub loop-b-preserved : goal.loop-b-preserved
loop-b-preserved g c =
    vector-beside g.row.STEP c.args.fields.now c.args.slopes.now c.args.src.now c.args.v c.args.l g.row.N c.args.rect c.args.dst.now _ _ c.requires.0.room c.args.first c.args.r c.loop-b.b c.requires.2
    (omega (arith, c.loop-b-test.true, c.div_ceil-b-end.ensures)) c.loop-b.invariant c.vector.ensures
