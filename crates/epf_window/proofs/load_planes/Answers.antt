use native.Mathlib.Omega.{arith}
use Rattle.epf_window.proofs.Window.{plane-fits, plane-next}
use Rattle.epf_window.proofs.load_planes.Goals as goal

pub loop-c-preserved : goal.loop-c-preserved
loop-c-preserved c = (omega arith, plane-next c.args.l c.args.src.now _ _ _ c.args.part _ c.loop-c.invariant.1 c.load_plane.ensures)

pub load_plane-requires : goal.load_plane-requires
load_plane-requires c = plane-fits _ _ _ _ _ c.requires c.loop-c-test.true
