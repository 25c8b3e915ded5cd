-- What `loupe_smooth` checks, returns and writes (Specification 17.4, 17.5). Definitions only.
use Rattle.std.specs.Prelude.{Bool, cond, not, ◌&&◌, ◌||◌, List, [], ◌∷◌, ℕ, zero, suc, ◌+◌, ◌*◌, eqb, nat_abs, ◌-ℤ◌, length, Float}
use Rattle.refusals.specs.Numbers.{wrong_length, block_not_held}
use Rattle.refusals.specs.Checks.{Check, given, first_of}
use Rattle.planes.specs.Sets.{set_of}
use Rattle.planes.specs.Band.{planes_fit}
use Rattle.frame.specs.declared.Frame.{Frame}
use Rattle.sigma_groups.specs.Held.{some_not_held}
use Rattle.sigma_groups.specs.Outcome.{table_read, frame_sides, grid_sides, table_length, grids_length, frame_settings, presences}
use Rattle.run_passes.specs.declared.Settings.{Settings}
use Rattle.run_passes.specs.Plan.{gabor_fits, iterations_fit}
use Rattle.run_setup.specs.declared.Setup.{Setup}
use Rattle.run_setup.specs.Makers.{setup_with}
use Rattle.run_setup.specs.Setup.{pass_count, epf_on, set_length, sigma_length}
use Rattle.run_outcomes.specs.Start.{Handed, blocks_of, iters_in_range, planes_in_range, gabor_in_range}
use Rattle.run_outcomes.specs.Band.{State, band_outcome, advance_outcome}
use Rattle.run_calls.specs.Calls.{start_state, of_advance, left_by}
use Rattle.run_calls.specs.Places.{smoothed}
use Rattle.loupe_region.specs.declared.LoupeSetup.{LoupeSetup}
use Rattle.loupe_region.specs.Outcome.{regions_in_limits, wanted_inside, whole_on_blocks, widened_region}

-- the arguments: the setup; the frame with its group table and grids; both sets and the block sigmas of the widened rectangle; the slice for
-- the wanted samples
pub record LoupeHanded : Type 0 where
  pub setup : LoupeSetup
  pub frame : Frame
  pub table : List ℕ
  pub grids : List Float
  pub first : List Float
  pub second : List Float
  pub sigmas : List Float
  pub out : List Float

-- ---- the run over the widened rectangle

-- the largest band height: one band has all rows
abbrev pub all_rows : ℕ
all_rows = 16384

-- image and filter region alike, with one band
abbrev pub run_setup_of : LoupeSetup → Setup
run_setup_of s = setup_with (widened_region s) (widened_region s) s.planes 0 s.settings all_rows

-- the arguments of its start
abbrev pub as_run : LoupeHanded → Handed
as_run h = record { setup = run_setup_of h.setup; frame = h.frame; table = h.table; grids = h.grids; first = h.first; second = h.second; sigmas = h.sigmas }

-- a pass: its only band, and an advance
unfoldable pub after_pass : State → State
after_pass t = let u = (band_outcome t 0).state in left_by u (of_advance (advance_outcome u.run))

unfoldable pub after_passes : ℕ → State → State
after_passes zero t = t
after_passes (suc k) t = after_pass (after_passes k t)

-- the state after the start and all passes
abbrev pub final_state : LoupeHanded → State
final_state h = after_passes (pass_count (run_setup_of h.setup)) (start_state (as_run h))

-- ---- the wanted samples

abbrev pub wanted_length : LoupeSetup → ℕ
wanted_length s = s.planes * s.wanted.height * s.wanted.width

-- the wanted rectangle's part of the smoothed samples (Specification 12.3) of the run, plane by plane
unfoldable pub wanted_samples : LoupeHanded → List Float
wanted_samples h =
    let r = h.setup.wanted in
    let w = widened_region h.setup in
    set_of h.setup.planes r.width r.height (λ c x y. smoothed (as_run h) c (nat_abs (r.left -ℤ w.left) + x) (nat_abs (r.top -ℤ w.top) + y))

-- ---- the checks, by name: those of `loupe_region`, of `sigma_groups` and these

-- the settings that decide the margin, and so the widened rectangle, are in range
abbrev pub margin_fits : Settings → Bool
margin_fits s = gabor_fits s && iterations_fit s

abbrev pub slice_length : LoupeHanded → Check
slice_length h = given (planes_fit h.setup.planes) wrong_length (not (eqb (length h.out) (wanted_length h.setup)))

abbrev pub widened_sets : LoupeHanded → Check
widened_sets h =
    given (margin_fits h.setup.settings && planes_fit h.setup.planes) wrong_length
    (not (eqb (length h.first) (set_length (run_setup_of h.setup)) && eqb (length h.second) (set_length (run_setup_of h.setup))))

-- with the EPF off there are no block sigmas, whatever the widened rectangle is
abbrev pub widened_sigmas : LoupeHanded → Check
widened_sigmas h =
    given (iterations_fit h.setup.settings && (not (epf_on (run_setup_of h.setup)) || gabor_fits h.setup.settings)) wrong_length
    (not (eqb (length h.sigmas) (sigma_length (run_setup_of h.setup))))

abbrev pub widened_held : LoupeHanded → Check
widened_held h =
    given ((margin_fits h.setup.settings && epf_on (run_setup_of h.setup)) && table_read h.frame h.table) block_not_held
    (some_not_held h.frame (blocks_of (run_setup_of h.setup)) h.table)

-- ---- the outcome

unfoldable pub loupe_checks : LoupeHanded → List Check
loupe_checks h =
    regions_in_limits h.setup
    ∷ frame_sides h.frame
    ∷ grid_sides h.frame h.table
    ∷ wanted_inside h.setup
    ∷ whole_on_blocks h.setup
    ∷ slice_length h
    ∷ widened_sets h
    ∷ table_length h.frame h.table
    ∷ grids_length h.frame h.table h.grids
    ∷ widened_sigmas h
    ∷ widened_held h
    ∷ iters_in_range (run_setup_of h.setup)
    ∷ planes_in_range (run_setup_of h.setup)
    ∷ frame_settings h.frame
    ∷ presences h.frame h.table
    ∷ gabor_in_range (run_setup_of h.setup)
    ∷ []

abbrev pub loupe_number : LoupeHanded → ℕ
loupe_number h = first_of (loupe_checks h)

-- the number, and every slice that is written
pub record LoupeOutcome : Type 0 where
  pub number : ℕ
  pub first : List Float
  pub second : List Float
  pub sigmas : List Float
  pub out : List Float

abbrev pub loupe_accepted : LoupeHanded → LoupeOutcome
loupe_accepted h = record { number = 0; first = (final_state h).first; second = (final_state h).second; sigmas = (final_state h).sigmas; out = wanted_samples h }

abbrev pub loupe_refused : ℕ → LoupeHanded → LoupeOutcome
loupe_refused k h = record { number = k; first = h.first; second = h.second; sigmas = h.sigmas; out = h.out }

unfoldable pub loupe_outcome : LoupeHanded → LoupeOutcome
loupe_outcome h = cond (eqb (loupe_number h) 0) (loupe_accepted h) (loupe_refused (loupe_number h) h)
