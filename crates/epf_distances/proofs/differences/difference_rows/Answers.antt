use mathlib.Core.Path.{refl}
use native.Mathlib.Omega.{arith}
use Rattle.planes.proofs.Rect.{rows-turn}
use Rattle.epf_distances.proofs.differences.difference_rows.Goals as goal

pub loop-r-preserved : goal.loop-r-preserved
loop-r-preserved c = (omega arith, rows-turn _ _ _ _ _ _ _ _ _ c.loop-r.invariant.1 refl c.difference_row.ensures)
