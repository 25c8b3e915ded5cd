use native.Mathlib.Omega.{arith}
use Rattle.gabor_plane.proofs.PairLaws.{both_none, both_more}
use Rattle.gabor_plane.proofs.pairs.pair_columns.Goals as goal

pub loop-j-init : goal.loop-j-init
loop-j-init c = both_none _ _ _ _ _ _

pub loop-j-preserved : goal.loop-j-preserved
loop-j-preserved c = both_more c.loop-j.invariant (omega arith) (omega arith) c.inner_column-x.ensures c.inner_column-y.ensures
