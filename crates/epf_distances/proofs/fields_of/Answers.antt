-- `epf_distances::fields_of` meets its contract: steps after 2 are like step 2. Assumes nothing.
use mathlib.Core.Path.{◌∙◌}
use native.Mathlib.Omega.{arith}
use Rattle.epf_distances.proofs.Loops.{fields-late}
use Rattle.epf_distances.proofs.fields_of.Goals as goal

pub returns-in_default-clause-fields : goal.returns-in_default-clause-fields
returns-in_default-clause-fields g c = c.fill_fields-in_default.ensures.fields ∙ fields-late c.args.step _ c.args.src.now c.args.v c.args.rows c.args.cols _ (omega arith)
