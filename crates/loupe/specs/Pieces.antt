-- The numbers of `loupe_smooth` in parts: those of the frame, its group table and its grids alone, and those that come before the start of
-- the run; and the copy of the wanted rectangle. Definitions only.
use Rattle.std.specs.Prelude.{true, cond, not, ◌&&◌, ◌||◌, List, [], ◌∷◌, ℕ, ◌%◌, eqb, Float}
use Rattle.refusals.specs.Numbers.{wrong_length, out_of_range}
use Rattle.refusals.specs.Checks.{Check, always, given}
use Rattle.region.specs.declared.Region.{Region}
use Rattle.planes.specs.Band.{planes_fit}
use Rattle.frame.specs.declared.Frame.{Frame}
use Rattle.sigma_groups.specs.Outcome.{frame_sides, grid_sides, table_length, grids_length, frame_settings, presences}
use Rattle.run_passes.specs.Makers.{no_settings}
use Rattle.run_setup.specs.declared.Setup.{Setup}
use Rattle.run_setup.specs.Makers.{setup_with}
use Rattle.run_record.specs.Record.{started}
use Rattle.run_outcomes.specs.Band.{State}
use Rattle.run_outcomes.specs.Result.{result_outcome}
use Rattle.loupe_region.specs.declared.LoupeSetup.{LoupeSetup}
use Rattle.loupe_region.specs.Outcome.{regions_in_limits, wanted_inside, whole_on_blocks}
use Rattle.loupe.specs.Outcome.{LoupeOutcome, all_rows, after_passes, wanted_length, margin_fits}

abbrev pub groups_checks : Frame → List ℕ → List Float → List Check
groups_checks f t grids = frame_sides f ∷ grid_sides f t ∷ table_length f t ∷ grids_length f t grids ∷ frame_settings f ∷ presences f t ∷ []

-- If the margin is unknown: 7 for the group table and the grids (`groups` is their number, and not 4), or for block sigmas with the EPF off;
-- otherwise 9.
abbrev pub settings_number : ℕ → ℕ → ℕ → ℕ
settings_number groups iters sigmas = cond (eqb groups wrong_length || (eqb iters 0 && not (eqb sigmas 0))) wrong_length out_of_range

-- a check that is passed over if the margin is known
abbrev pub unless_margin : LoupeSetup → Check → Check
unless_margin s c = given (not (margin_fits s.settings) && c.needs) c.number c.fault

-- the lengths that are looked at if the margin is not known, and its number
abbrev pub unknown_checks : LoupeSetup → Frame → List ℕ → List Float → ℕ → List Check
unknown_checks s f t grids sigmas =
    unless_margin s (table_length f t)
    ∷ unless_margin s (grids_length f t grids)
    ∷ unless_margin s (given (eqb s.settings.epf.iters 0) wrong_length (not (eqb sigmas 0)))
    ∷ unless_margin s (always out_of_range true)
    ∷ []

-- The checks that `start` does not make. If the margin is unknown, `start` is not called, and these are all the checks.
unfoldable pub early_checks : LoupeSetup → Frame → List ℕ → List Float → ℕ → ℕ → List Check
early_checks s f t grids sigmas out =
    regions_in_limits s
    ∷ frame_sides f
    ∷ grid_sides f t
    ∷ wanted_inside s
    ∷ whole_on_blocks s
    ∷ given (planes_fit s.planes) wrong_length (not (eqb out (wanted_length s)))
    ∷ unknown_checks s f t grids sigmas

-- ---- the copy of the wanted rectangle from a set of the widened one: the result of a run without passes whose filter region it is

abbrev pub copy_setup : ℕ → Region → Region → Setup
copy_setup planes widened wanted = setup_with widened wanted planes 0 no_settings all_rows

abbrev pub copied : ℕ → Region → Region → List Float → List Float → List Float
copied planes widened wanted set out = (result_outcome (started (copy_setup planes widened wanted)) set set out).out

-- all passes from state t, and the copy from the set that a next pass would read
unfoldable pub passed_outcome : ℕ → State → Region → Region → List Float → LoupeOutcome
passed_outcome passes t widened wanted out =
    let u = after_passes passes t in
    record {
      number = 0;
      first = u.first;
      second = u.second;
      sigmas = u.sigmas;
      out = copied t.run.setup.planes widened wanted (cond (eqb (passes % 2) 0) u.first u.second) out;
    }
