use Prim.Native.Nat.{◌+◌, ◌-◌, ◌*◌, min}
use native.Mathlib.Nat.{add-mul, mul_assoc}
use native.Mathlib.Omega.{arith}
use Rattle.epf_vectors.proofs.Rows.{loaded-at}
use Rattle.epf_lanes.specs.Lanes.{row_of}
use Rattle.epf_lanes.proofs.Vectors.{plane-more}
use Rattle.epf_lanes.proofs.Lanes.{lanes-mixed}
use Rattle.epf_lanes.proofs.Room.{vector-end}
use Rattle.epf_lanes.proofs.rows.vector.Goals as goal

pub slice_bounds-store-end : goal.slice_bounds-store-end
slice_bounds-store-end g c =
    omega
    (arith, vector-end g.row.STEP c.args.l g.row.N c.args.rect c.args.v c.args.r c.args.i c.loop-c.c _ _ c.requires.0 c.requires.2 c.requires.3 c.loop-c-test.true, c.min-m.ensures, c.loop-c.auto.dst)

pub loop-c-preserved : goal.loop-c-preserved
loop-c-preserved g c =
    let w = c.args.l.image.width in
    let h = c.args.l.image.height in
    let top = c.args.l.top + c.args.rect.y + c.args.r in (
      omega (arith, c.loop-c-test.true),
      plane-more w h (c.args.l.left + c.args.rect.x + c.args.i) top (min (c.args.rect.cols - c.args.i) 4) c.min-m.result
          (λ k x. row_of g.row.STEP c.args.fields.now c.args.slopes.now c.args.src.now c.args.v c.args.first c.args.r k (c.args.i + x) 0) c.args.dst.now c.loop-c.dst c.mix-x.result c.store.new.dst c.loop-c.c _ c.loop-c.invariant.1
          (omega (arith, add-mul (c.loop-c.c * h) top w, mul_assoc c.loop-c.c h w)) c.min-m.ensures (omega (arith, c.min-m.ensures))
          (omega (arith, vector-end g.row.STEP c.args.l g.row.N c.args.rect c.args.v c.args.r c.args.i c.loop-c.c _ _ c.requires.0 c.requires.2 c.requires.3 c.loop-c-test.true, c.min-m.ensures, c.loop-c.auto.dst))
          (lanes-mixed g.row.STEP c.args.fields.now c.args.slopes.now c.args.src.now c.args.v c.args.first c.loop-c.c c.args.i c.args.r _ _ _
          (loaded-at c.args.slopes.now c.args.first c.args.i (omega (arith, c.requires.1, c.requires.3, c.requires.4, c.requires.0.view.cols-le, c.told-slopes))) c.weights-w.ensures.0 c.mix-x.ensures)
          c.store.ensures,
    )
