use mathlib.Core.Path.{refl, ◌∙◌}
use native.Mathlib.Omega.{arith}
use lib.ListN.{length}
use Rattle.epf_rects.proofs.Rects.{PlaneRoom, plane-room, plane-next}
use Rattle.epf_rects.proofs.store_planes.Goals as goal

pub loop-c-preserved : goal.loop-c-preserved
loop-c-preserved c = (omega arith, c.store_rows.auto.dst ∙ c.loop-c.invariant.1, plane-next c.args.l c.args.src.now _ _ _ c.args.rect c.loop-c.c _ c.loop-c.invariant.2 refl c.store_rows.ensures)

pub store_rows-requires-clause-by_index : goal.store_rows-requires-clause-by_index
store_rows-requires-clause-by_index c =
    let room : PlaneRoom c.args.l c.loop-c.c c.args.rect (length c.args.dst.now) = plane-room c.args.l c.args.n c.loop-c.c c.args.rect (length c.args.dst.now) c.requires.rect_fits c.loop-c-test.true in
    λ r h. omega (arith, room.rows-fit r h, c.loop-c.auto.dst)
