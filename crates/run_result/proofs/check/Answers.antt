-- `run_result::check` meets its contract. Assumes nothing.
use mathlib.Core.Path.{◌∙◌}
use mathlib.Core.List.{List, ◌∷◌}
use lib.ListN.{length}
use Rattle.refusals.specs.Checks.{Check}
use Rattle.run_record.specs.Record.{finished_checks}
use Rattle.run_outcomes.specs.Band.{set_check}
use Rattle.run_outcomes.specs.Result.{slice_check, result_checks}
use Rattle.run_outcomes.proofs.Steps.{first-refuses, first-passes}
use Rattle.run_result.proofs.check.Goals as goal
use Rattle.run_result.proofs.check.Goals.{Start}

-- the rows of the table
abbrev sets : Start → Check
sets c = set_check c.args.run.now.setup (length c.args.first.now) (length c.args.second.now)

abbrev slice : Start → Check
slice c = slice_check c.args.run.now.setup (length c.args.out.now)

abbrev record_rows : Start → List Check
record_rows c = finished_checks c.args.run.now

pub returns-in_err-check_sets : goal.returns-in_err-check_sets
unfolding result_checks
returns-in_err-check_sets c =
    let at = (goal.at.returns-in_err-check_sets c).Start in
    first-refuses (sets at) (slice at ∷ record_rows at) tt _ c.in_err-check_sets.ensures _ c.from_residual.ensures.1

pub returns-in_err-check_slice : goal.returns-in_err-check_slice
unfolding result_checks
returns-in_err-check_slice c =
    let at = (goal.at.returns-in_err-check_slice c).Start in
    first-refuses (slice at) (record_rows at) tt _ c.in_err-check_slice.ensures _ c.from_residual-in_err-check_slice.ensures.1
    ∙ first-passes (sets at) (slice at ∷ record_rows at) tt c.in_ok-check_sets.ensures

pub returns : goal.returns
unfolding result_checks
returns c =
    let at = (goal.at.returns c).Start in
    c.check_result.ensures
    ∙ first-passes (slice at) (record_rows at) tt c.in_ok-check_slice.ensures
    ∙ first-passes (sets at) (slice at ∷ record_rows at) tt c.in_ok-check_sets.ensures
