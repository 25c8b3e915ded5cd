-- `run_band::check` meets its contract. Assumes nothing.
use mathlib.Core.Path.{◌∙◌}
use mathlib.Core.List.{List, ◌∷◌}
use lib.ListN.{length}
use Rattle.refusals.specs.Checks.{Check}
use Rattle.run_record.specs.Record.{open_checks}
use Rattle.run_outcomes.specs.Band.{set_check, sigma_check, band_checks}
use Rattle.run_outcomes.proofs.Steps.{first-refuses, first-passes}
use Rattle.run_band.proofs.check.Goals as goal
use Rattle.run_band.proofs.check.Goals.{Start}

-- the rows of the table
abbrev sets : Start → Check
sets c = set_check c.args.run.now.setup (length c.args.first.now) (length c.args.second.now)

abbrev sigmas : Start → Check
sigmas c = sigma_check c.args.run.now.setup (length c.args.sigmas.now)

abbrev record_rows : Start → List Check
record_rows c = open_checks c.args.run.now c.args.k

pub returns-in_err-check_sets : goal.returns-in_err-check_sets
unfolding band_checks
returns-in_err-check_sets c =
    let at = (goal.at.returns-in_err-check_sets c).Start in
    first-refuses (sets at) (sigmas at ∷ record_rows at) tt _ c.in_err-check_sets.ensures _ c.from_residual.ensures.1

pub returns-in_err-check_sigmas : goal.returns-in_err-check_sigmas
unfolding band_checks
returns-in_err-check_sigmas c =
    let at = (goal.at.returns-in_err-check_sigmas c).Start in
    first-refuses (sigmas at) (record_rows at) tt _ c.in_err-check_sigmas.ensures _ c.from_residual-in_err-check_sigmas.ensures.1
    ∙ first-passes (sets at) (sigmas at ∷ record_rows at) tt c.in_ok-check_sets.ensures

pub returns : goal.returns
unfolding band_checks
returns c =
    let at = (goal.at.returns c).Start in
    c.check_band.ensures
    ∙ first-passes (sigmas at) (record_rows at) tt c.in_ok-check_sigmas.ensures
    ∙ first-passes (sets at) (sigmas at ∷ record_rows at) tt c.in_ok-check_sets.ensures
