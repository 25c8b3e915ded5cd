use mathlib.Core.Path.{refl, ◌∙◌}
use Prim.Native.Nat.{◌+◌, ◌*◌, ◌≤◌}
use native.Mathlib.Omega.{arith}
use lib.ListN.{length}
use Rattle.planes.proofs.Copy.{copied-run}
use Rattle.planes.proofs.Rect.{rows-turn}
use Rattle.epf_rects.proofs.store_rows.Goals as goal

pub loop-r-preserved : goal.loop-r-preserved
loop-r-preserved c =
    let room : c.args.at + c.loop-r.r * c.args.stride + c.args.n ≤ length c.args.dst.now = c.requires.by_index c.loop-r.r c.loop-r-test.true in
    (omega arith, c.copy_run.auto.dst ∙ c.loop-r.invariant.1, rows-turn _ _ _ _ _ _ _ _ _ c.loop-r.invariant.2 refl (c.copy_run.ensures ∙ copied-run _ _ _ _ _ (omega (arith, room, c.loop-r.invariant.1)) (omega (arith, room, c.requires.same_length))))
