-- `planes_outside::copy_rows_outside` meets its contract. Assumes nothing.
use Rattle.std.proofs.Common.{refl, ◌∙◌}
use Rattle.planes.specs.Rect.{rows_fill}
use Rattle.planes.proofs.Rect.{rows-turn}
use Rattle.planes.proofs.Outside.{row_next}
use Rattle.planes_outside.proofs.copy_rows_outside.Goals as goal

pub loop-i-init : goal.loop-i-init
unfolding rows_fill
loop-i-init c = (refl, refl)

pub loop-i-preserved : goal.loop-i-preserved
loop-i-preserved c =
    let inv = c.loop-i.invariant in (
      c.copy_row_outside.auto.dst ∙ inv.0,
      rows-turn _ _ _ _ _ _ _ _ _ inv.1 refl (row_next _ _ _ _ _ _ _ _ _ _ inv.1 refl c.copy_row_outside.ensures),
    )
