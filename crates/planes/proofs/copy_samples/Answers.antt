use mathlib.Core.Path.{refl}
use native.Mathlib.Omega.{arith}
use Rattle.planes.proofs.Loop.{written_none, written-more}
use Rattle.planes.proofs.copy_samples.Goals as goal

pub loop-i-init : goal.loop-i-init
loop-i-init c = written_none _ _ _ _

pub loop-i-preserved : goal.loop-i-preserved
loop-i-preserved c = written-more c.loop-i.invariant (omega arith) refl
