use native.Mathlib.Omega.{arith}
use Rattle.planes.proofs.Loop.{written_none, written-more}
use Rattle.gabor_plane.proofs.rows.inner_columns.Goals as goal

pub loop-j-init : goal.loop-j-init
loop-j-init g c = written_none _ _ _ _

pub loop-j-preserved : goal.loop-j-preserved
loop-j-preserved g c = written-more c.loop-j.invariant (omega arith) c.inner_column.ensures
