use mathlib.Core.Path.{refl, ◌∙◌}
use Prim.Native.Nat.{◌+◌, ◌*◌, ◌≤◌}
use native.Mathlib.Omega.{arith}
use Rattle.planes.proofs.Copy.{copied-run}
use Rattle.planes.specs.Rect.{rows_fill}
use Rattle.planes.proofs.Room.{row_room}
use Rattle.run_result.proofs.Part.{row_next}
use Rattle.run_result.proofs.copy_rows.Goals as goal

pub loop-y-init : goal.loop-y-init
unfolding rows_fill
loop-y-init c = (refl, refl)

pub loop-y-preserved : goal.loop-y-preserved
loop-y-preserved c =
    let l = c.args.l in
    let inv = c.loop-y.invariant in
    let source : c.loop-y.y * l.image.width + l.image.width ≤ l.height * l.image.width = row_room c.loop-y.y l.height l.image.width c.loop-y-test.true in
    let target : c.loop-y.y * l.width + l.width ≤ l.height * l.width = row_room c.loop-y.y l.height l.width c.loop-y-test.true in (
      c.copy_run.auto.dst ∙ inv.0,
      row_next l _ _ _ _ _ _ _ _ _ inv.1 refl refl (c.copy_run.ensures ∙ copied-run _ _ _ _ _ (omega arith) (omega arith)),
    )
