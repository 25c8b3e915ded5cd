use Prim.Native.Nat.{◌+◌, ◌*◌}
use native.Mathlib.Omega.{arith}
use Rattle.epf_distances.proofs.Lanes.{lanes-first, lanes-more, lanes-all, stored-from}
use Rattle.epf_distances.proofs.sums.distance.Goals as goal

pub loop-c-init : goal.loop-c-init
loop-c-init g c =
    let q = c.requires in
    (omega arith, q.1, lanes-first 72 g.row.STEP c.args.scales.now _ _ _ c.args.j c.nearby-first.ensures (λ k. stored-from 72 g.row.STEP c.args.d.now 0 (c.args.j + k) (c.args.j + k) (omega (arith, q.3)) (omega (arith, q.3)) (omega arith)))

pub loop-c-preserved : goal.loop-c-preserved
loop-c-preserved g c =
    let q = c.requires in
    let i = c.loop-c.invariant in (
      omega arith,
      omega arith,
      lanes-more 72 g.row.STEP c.args.scales.now _ c.loop-c.c _ _ _ c.args.j i.0 i.2 c.nearby.ensures
          (λ k. stored-from 72 g.row.STEP c.args.d.now c.loop-c.c (c.args.j + k) (c.loop-c.c * 864 + c.args.j + k) (omega (arith, q.3)) (omega (arith, q.3)) (omega arith)),
    )

pub returns : goal.returns
returns g c = lanes-all 72 g.row.STEP c.args.scales.now _ _ _ c.args.j _ c.loop-c.invariant.2 c.loop-c.invariant.1 (omega (arith, c.loop-c-test.false))
