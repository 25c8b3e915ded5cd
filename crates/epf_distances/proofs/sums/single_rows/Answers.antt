use mathlib.Core.Path.{refl}
use native.Mathlib.Omega.{arith}
use Rattle.planes.proofs.Rect.{rows-turn}
use Rattle.epf_distances.proofs.sums.single_rows.Goals as goal

pub loop-r-preserved : goal.loop-r-preserved
loop-r-preserved g c = (omega arith, rows-turn _ _ _ _ _ _ _ _ _ c.loop-r.invariant.1 refl c.single_row.ensures)
