-- `Setup::pass_count` meets its contract. Assumes nothing.
use mathlib.Core.Path.{sym, ◌∙◌}
use Rattle.run_passes.proofs.PlanLaws.{plan-length}
use Rattle.run_setup.proofs.Setup.pass_count.Goals as goal

pub returns : goal.returns
returns c = c.pass_count.ensures ∙ sym (plan-length c.args.self.now.planes c.args.self.now.settings)
