-- `epf_distances::sums::single` meets its contract. Assumes nothing.
use Prim.Native.Nat.{◌+◌, ◌-◌, ◌*◌, ◌≤◌}
use native.Mathlib.Nat.{mul-le-mul_right}
use native.Mathlib.Omega.{arith}
use Rattle.epf_distances.specs.Seen.{nearby}
use Rattle.epf_distances.proofs.Lanes.{lanes-first, lanes-more, lanes-all, apart-from, index-alone}
use Rattle.epf_distances.proofs.sums.single.Goals as goal

pub four_apart-first-requires : goal.four_apart-first-requires
four_apart-first-requires g c =
    let here = index-alone c.args.across c.index_of-here.ensures c.compared_place.ensures in
    omega (arith, here, c.requires)

pub loop-c-init : goal.loop-c-init
unfolding nearby
loop-c-init g c =
    let here = index-alone c.args.across c.index_of-here.ensures c.compared_place.ensures in
    (omega arith, c.requires.0, lanes-first 1 2 c.args.scales.now _ _ _ c.args.p c.four_apart-first.ensures (λ k. apart-from c.args.src.now (0 * c.args.plane) c.args.apart (c.args.p + k) (c.index_of-here.result + k) (omega (arith, here))))

pub four_apart-requires : goal.four_apart-requires
four_apart-requires g c =
    let here = index-alone c.args.across c.index_of-here.ensures c.compared_place.ensures in
    let before : c.loop-c.c ≤ g.row.N - 1 = omega (arith, c.loop-c-test.true) in
    omega (arith, here, c.requires, mul-le-mul_right c.args.plane before)

pub loop-c-preserved : goal.loop-c-preserved
unfolding nearby
loop-c-preserved g c =
    let here = index-alone c.args.across c.index_of-here.ensures c.compared_place.ensures in
    let i = c.loop-c.invariant in (
      omega arith,
      omega arith,
      lanes-more 1 2 c.args.scales.now _ c.loop-c.c _ _ _ c.args.p i.0 i.2 c.four_apart.ensures
          (λ k. apart-from c.args.src.now (c.loop-c.c * c.args.plane) c.args.apart (c.args.p + k) (c.loop-c.c * c.args.plane + c.index_of-here.result + k) (omega (arith, here))),
    )

pub returns : goal.returns
returns g c = lanes-all 1 2 c.args.scales.now _ _ _ c.args.p _ c.loop-c.invariant.2 c.loop-c.invariant.1 (omega (arith, c.loop-c-test.false))
