-- `epf_step::weight` meets its contract. Assumes nothing.
use Rattle.epf_step.specs.Steps.{weight_by}
use Rattle.epf_step.proofs.Bounds.{weight-bounded}
use Rattle.epf_step.proofs.weight.Goals as goal

pub returns : goal.returns
unfolding weight_by
returns c = weight-bounded _ _ _ c.positive.ensures
