-- `Run::before` meets its contract: all bands that may be done are left. Assumes nothing.
use mathlib.Core.Path.{refl, sym, ◌∙◌}
use Rattle.run_record.proofs.Counts.{left-before}
use Rattle.run_record.proofs.Run.before.Goals as goal

pub returns : goal.returns
returns c = let left = c.open_bands.ensures ∙ sym (left-before c.args.setup c.args.pass) in rw left refl
