use mathlib.Core.Path.{refl, ◌∙◌}
use native.Mathlib.Omega.{arith}
use Rattle.planes.specs.Rect.{planes_fill}
use Rattle.planes.proofs.Outside.{plane-next}
use Rattle.planes.proofs.Room.{rows-room}
use Rattle.planes_outside.proofs.copy_planes_outside.Goals as goal

pub loop-c-init : goal.loop-c-init
unfolding planes_fill
loop-c-init c = (refl, refl)

pub loop-c-preserved : goal.loop-c-preserved
loop-c-preserved c =
    let inv = c.loop-c.invariant in
    let q = c.requires.n_bound in (
      c.copy_rows_outside.auto.dst ∙ inv.0,
      plane-next _ _ _ _ _ _ _ q.3 _ _ _ _ inv.1 refl c.copy_rows_outside.ensures,
    )

pub copy_rows_outside-requires : goal.copy_rows_outside-requires
copy_rows_outside-requires c =
    let q = c.requires.n_bound in
    let f = c.requires.layout_fits in
    omega (arith, rows-room _ _ _ c.loop-c.c c.args.from c.args.rows f.width-le f.height-le q.3 q.0 (omega arith))
