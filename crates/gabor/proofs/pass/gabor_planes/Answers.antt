-- `gabor::pass::gabor_planes` meets its contract. Assumes nothing.
use Rattle.std.proofs.Common.{refl, ◌∙◌, [], get_or-take, arith}
use Rattle.planes.specs.Rect.{planes_fill}
use Rattle.planes.proofs.Room.{PlaneRoom, plane-room}
use Rattle.gabor.proofs.PassLaws.{plane_next, plane_region}
use Rattle.gabor.proofs.pass.gabor_planes.Goals as goal

pub loop-c-init : goal.loop-c-init
unfolding planes_fill
loop-c-init c = (refl, refl)

pub loop-c-preserved : goal.loop-c-preserved
loop-c-preserved c =
    let inv = c.loop-c.invariant in
    let rows = c.requires.rows_within in
    let sizes = c.requires.lengths in
    let room : PlaneRoom c.args.l c.args.n c.loop-c.c = plane-room c.args.l c.args.n c.loop-c.c c.requires.layout_fits c.requires.few_planes (omega arith) in (
      c.gabor_plane.auto.dst ∙ inv.0,
      plane_next _ _ _ _ _ _ _ _ _ inv.1 (rw sizes.0 (plane_region _ _ _ c.requires.layout_fits room rows.0 rows.1)) (inv.0 ∙ sizes.1) rows.2
          (rw (← (get_or-take c.args.n c.args.weights c.loop-c.c [] (omega arith))) at c.gabor_plane.ensures),
    )
