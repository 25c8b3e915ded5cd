-- `Run::check_band`: a valid record has no more bands than flags. Assumes nothing.
use mathlib.Core.Path.{sym, ◌∙◌}
use Rattle.run_record.proofs.Laws.{fits-setup-of}
use Rattle.run_record.proofs.Run.check_band.Goals as goal

pub not_open-requires : goal.not_open-requires
not_open-requires c = (fits-setup-of c.args.self.now (sym c.fits.ensures ∙ c.if-not-fits.false)).count
