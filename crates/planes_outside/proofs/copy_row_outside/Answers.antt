-- `planes_outside::copy_row_outside` meets its contract, in the three cases of a row. Assumes nothing.
use mathlib.Core.Path.{refl, ◌∙◌}
use native.Mathlib.Omega.{arith}
use Rattle.planes.proofs.Copy.{copied-run}
use Rattle.planes.proofs.Outside.{row-above, row_below, row-beside}
use Rattle.planes_outside.proofs.copy_row_outside.Goals as goal

pub returns-then-y-l : goal.returns-then-y-l
returns-then-y-l c = row-above _ _ _ _ _ _ _ c.if-y-l.true (c.copy_run.ensures ∙ copied-run _ _ _ _ _ (omega arith) (omega arith))

pub returns-then-l-y : goal.returns-then-l-y
returns-then-l-y c = row_below _ _ _ _ _ _ _ (omega arith) (c.copy_run-then-l-y.ensures ∙ copied-run _ _ _ _ _ (omega arith) (omega arith))

pub returns : goal.returns
returns c = row-beside _ _ _ _ _ _ _ _ _ refl (omega arith) (omega arith) (omega arith) (omega arith) (c.copy_run-2.ensures ∙ copied-run _ _ _ _ _ (omega arith) (omega arith)) (c.copy_run-3.ensures ∙ copied-run _ _ _ _ _ (omega (arith, c.copy_run-2.auto.dst)) (omega arith))
