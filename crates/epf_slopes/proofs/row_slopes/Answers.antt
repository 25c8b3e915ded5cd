use native.Mathlib.Omega.{arith}
use Rattle.epf_slopes.proofs.Slopes.{block-next}
use Rattle.epf_slopes.proofs.row_slopes.Goals as goal

pub loop-b-preserved : goal.loop-b-preserved
loop-b-preserved c = (omega arith, block-next _ _ _ _ _ _ _ _ _ _ _ c.loop-b.invariant.1 c.slope-s.ensures c.block_slopes.ensures)
