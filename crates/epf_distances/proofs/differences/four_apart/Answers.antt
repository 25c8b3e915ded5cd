-- `epf_distances::differences::four_apart` meets its contract. Assumes nothing.
use mathlib.Core.Path.{refl, ◌∙◌}
use Rattle.epf_distances.proofs.Lanes.{lanes-differences}
use Rattle.epf_distances.proofs.differences.four_apart.Goals as goal

pub returns : goal.returns
returns c = c.differences.ensures ∙ lanes-differences c.args.src.now c.args.p _ c.args.apart refl c.requires
