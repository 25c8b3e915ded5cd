-- Start: its arguments, the number of the call, and what it returns and writes (Specification 12.6, 12.7). Definitions only.
use Rattle.std.specs.Prelude.{Bool, cond, not, ◌&&◌, List, [], ◌∷◌, ◌++◌, ℕ, ◌/◌, eqb, length, Float, Result}
use Rattle.std.specs.Result.{result_unwrap_or}
use Rattle.refusals.specs.Numbers.{not_on_blocks, wrong_length, block_not_held, out_of_range}
use Rattle.refusals.specs.Checks.{Check, always, given, first_of}
use Rattle.refusals.specs.Refusals.{number_of}
use Rattle.refusals.specs.declared.Refusal.{Refusal}
use Rattle.frame.specs.declared.Frame.{Frame}
use Rattle.sigma_groups.specs.declared.blocks.Blocks.{Blocks}
use Rattle.sigma_groups.specs.Held.{some_not_held}
use Rattle.sigma_groups.specs.Outcome.{table_read, frame_sides, grid_sides, table_length, grids_length, frame_settings, presences}
use Rattle.sigma.specs.Sigma.{block_sigmas}
use Rattle.region_placement.specs.Placed.{picture_check, inside_check}
use Rattle.region_placement.specs.Blocks.{clamp_to_zero, on_blocks}
use Rattle.planes.specs.Band.{planes_fit}
use Rattle.run_passes.specs.Plan.{gabor_fits}
use Rattle.run_setup.specs.declared.Setup.{Setup}
use Rattle.run_setup.specs.Makers.{no_setup}
use Rattle.run_record.specs.declared.Run.{Run}
use Rattle.run_setup.specs.Setup.{epf_on, iters_fit, full_fits, height_fits, count_fits, set_length, sigma_length}
use Rattle.run_record.specs.Record.{started}
use Rattle.run_outcomes.specs.declared.RunAnswer.{RunAnswer}

-- the arguments of start: the setup, the frame with its group table and grids, both sets, and the slice for the block sigmas
pub record Handed : Type 0 where
  pub setup : Setup
  pub frame : Frame
  pub table : List ℕ
  pub grids : List Float
  pub first : List Float
  pub second : List Float
  pub sigmas : List Float

-- the filter region in blocks; a negative left or top is refused with 6 if the EPF is on
abbrev pub blocks_of : Setup → Blocks
blocks_of s = record { left = clamp_to_zero s.filter.left / 8; top = clamp_to_zero s.filter.top / 8; width = s.filter.width; height = s.filter.height }

-- ---- the rows of start's table of checks, by name; crate `sigma_groups` has those of the frame, its group table and its grids

-- the iterations are in range and the EPF is on
abbrev pub runs_epf : Setup → Bool
runs_epf s = iters_fit s && epf_on s

abbrev pub region_sides : Setup → Check
region_sides s = picture_check s.image s.filter

abbrev pub filter_inside : Setup → Check
filter_inside s = inside_check s.image s.filter

abbrev pub filter_on_blocks : Setup → Check
filter_on_blocks s = given (runs_epf s) not_on_blocks (not (on_blocks s.filter))

-- the lengths of both sets, and of the block sigmas; that of a set is checked only if the number of planes is in range
abbrev pub set_lengths : Handed → Check
set_lengths h = given (planes_fit h.setup.planes) wrong_length (not (eqb (length h.first) (set_length h.setup) && eqb (length h.second) (set_length h.setup)))

abbrev pub sigmas_length : Handed → Check
sigmas_length h = given (iters_fit h.setup) wrong_length (not (eqb (length h.sigmas) (sigma_length h.setup)))

-- A grid whose presence is out of range counts as missing.
abbrev pub blocks_held : Handed → Check
blocks_held h = given (runs_epf h.setup && table_read h.frame h.table) block_not_held (some_not_held h.frame (blocks_of h.setup) h.table)

abbrev pub iters_in_range : Setup → Check
iters_in_range s = always out_of_range (not (iters_fit s))

abbrev pub planes_in_range : Setup → Check
planes_in_range s = always out_of_range (not (planes_fit s.planes))

abbrev pub full_in_range : Setup → Check
full_in_range s = always out_of_range (not (full_fits s))

abbrev pub gabor_in_range : Setup → Check
gabor_in_range s = always out_of_range (not (gabor_fits s.settings))

abbrev pub height_in_range : Setup → Check
height_in_range s = always out_of_range (not (height_fits s))

abbrev pub count_in_range : Setup → Check
count_in_range s = given (full_fits s && height_fits s) out_of_range (not (count_fits s))

module _ (h : Handed) where
  abbrev setup : Setup
  setup = h.setup

  -- The checks of Specification 12.6, numbers 4 to 9 in ascending order, each with the settings that it needs.
  unfoldable pub picture_checks : List Check
  picture_checks =
      region_sides setup
      ∷ frame_sides h.frame
      ∷ grid_sides h.frame h.table
      ∷ filter_inside setup
      ∷ filter_on_blocks setup
      ∷ set_lengths h
      ∷ table_length h.frame h.table
      ∷ grids_length h.frame h.table h.grids
      ∷ sigmas_length h
      ∷ blocks_held h
      ∷ iters_in_range setup
      ∷ planes_in_range setup
      ∷ frame_settings h.frame
      ∷ presences h.frame h.table
      ∷ full_in_range setup
      ∷ gabor_in_range setup
      ∷ height_in_range setup
      ∷ count_in_range setup
      ∷ []

  -- further checks, after those: none at present
  abbrev pub tail_checks : List Check
  tail_checks = []

  -- All checks of start. The theorem on rectangles uses only `start-picture` of them.
  unfoldable pub start_checks : List Check
  start_checks = picture_checks ++ tail_checks

  abbrev pub start_number : ℕ
  start_number = first_of start_checks

  -- the first set after an accepted start: unchanged
  unfoldable pub start_leaves : List Float
  start_leaves = h.first

  -- the block sigmas after an accepted start; the slice is empty if the EPF is off
  unfoldable pub sigmas_filled : List Float
  sigmas_filled = cond (epf_on setup) (block_sigmas h.frame (blocks_of setup) h.table h.grids setup.settings.epf.sigma_for_modular) h.sigmas

-- ---- a refused start returns a record of zeros

-- `started` of a setup of zeros: pass 0, no band done
abbrev pub no_run : Run
no_run = started no_setup

-- the number and the record on the C boundary
abbrev pub run_answer : Result Run Refusal → RunAnswer
run_answer run = record { number = number_of run; run = result_unwrap_or run no_run }

-- ---- the outcome: number and record, the first set and the block sigmas after the call

pub record StartOutcome : Type 0 where
  pub answer : RunAnswer
  pub first : List Float
  pub sigmas : List Float

abbrev pub start_accepted : Handed → StartOutcome
start_accepted h = record { answer = record { number = 0; run = started h.setup }; first = start_leaves h; sigmas = sigmas_filled h }

abbrev pub start_refused : ℕ → Handed → StartOutcome
start_refused k h = record { answer = record { number = k; run = no_run }; first = h.first; sigmas = h.sigmas }

unfoldable pub start_outcome : Handed → StartOutcome
start_outcome h = cond (eqb (start_number h) 0) (start_accepted h) (start_refused (start_number h) h)
