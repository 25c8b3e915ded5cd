-- `mirror::mirrored` meets its contract. Assumes nothing.
use mathlib.Core.Path.{◌∙◌}
use native.Mathlib.Omega.{arith}
use Rattle.mirror.proofs.Laws.{mirror-back}
use Rattle.mirror.proofs.mirrored.Goals as goal

pub returns : goal.returns
returns c = c.reflected-2.ensures ∙ mirror-back _ _ _ (omega arith)
