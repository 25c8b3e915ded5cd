use mathlib.Core.Path.{◌≡◌, ◌∙◌}
use Prim.Native.Nat.{◌+◌, ◌*◌}
use native.Mathlib.Omega.{arith}
use Rattle.epf_vectors.proofs.Rows.{four-more}
use Rattle.epf_distances.specs.Seen.{summed}
use Rattle.epf_distances.proofs.Lanes.{lanes-from}
use Rattle.epf_distances.proofs.sums.sum_row.Goals as goal

pub loop-v-preserved : goal.loop-v-preserved
loop-v-preserved g c =
    let n = 4 * c.loop-v.v in
    let next : 4 * (c.loop-v.v + 1) ≡ n + 4 = omega arith in
    rw next (four-more c.args.fields.now _ c.args.at n _ c.loop-v.invariant _ (c.distance-sums.ensures ∙ lanes-from (summed 72 g.row.STEP _ _) c.args.j n) (omega (arith, c.requires, c.loop-v-test.true, c.told-fields)))
