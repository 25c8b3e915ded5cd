use mathlib.Core.Path.{◌≡◌, ◌∙◌}
use Prim.Native.Nat.{◌+◌, ◌*◌}
use native.Mathlib.Omega.{arith}
use Rattle.epf_vectors.proofs.Rows.{four-more}
use Rattle.epf_distances.specs.Seen.{apart_by}
use Rattle.epf_distances.proofs.Lanes.{lanes-from}
use Rattle.epf_distances.proofs.differences.difference_row.Goals as goal

pub loop-v-preserved : goal.loop-v-preserved
loop-v-preserved c =
    let n = 4 * c.loop-v.v in
    let next : 4 * (c.loop-v.v + 1) ≡ n + 4 = omega arith in
    rw next
    (four-more c.args.d.now _ c.args.at n _ c.loop-v.invariant _ (c.four_apart.ensures ∙ lanes-from (apart_by c.args.src.now 0 c.args.apart) c.args.p n) (omega (arith, c.requires.0, c.loop-v-test.true, c.told-d)))
