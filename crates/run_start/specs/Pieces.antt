-- The parts from which the code computes start's number. Definitions only; proofs/Number.antt shows that the lowest of them is the number
-- of the checks of Specification 12.6.
use Rattle.std.specs.Prelude.{cond, List, [], ◌∷◌, ℕ, Float}
use Rattle.refusals.specs.Checks.{Check, first_of}
use Rattle.region_placement.specs.Placed.{placed_checks}
use Rattle.frame.specs.declared.Frame.{Frame}
use Rattle.sigma_groups.specs.Outcome.{sigma_number}
use Rattle.run_setup.specs.declared.Setup.{Setup}
use Rattle.run_setup.specs.Setup.{iters_fit}
use Rattle.run_outcomes.specs.Band.{set_check}
use Rattle.run_outcomes.specs.Start.{blocks_of, runs_epf, filter_on_blocks, iters_in_range, planes_in_range, full_in_range, gabor_in_range, height_in_range, count_in_range}
use Rattle.run_start.specs.Lowest.{lowest}

-- whether the iterations are in range and the EPF is on, as a flag
abbrev pub epf_flag : Setup → ℕ
epf_flag s = cond (runs_epf s) 1 0

-- the length of the block sigmas; 0, as required with the EPF off, if the iterations are out of range
abbrev pub sigmas_asked : Setup → ℕ → ℕ
sigmas_asked s sigmas = cond (iters_fit s) sigmas 0

-- the settings of the setup: iterations, number of planes, both flags, band height and number of bands
abbrev pub settings_checks : Setup → List Check
settings_checks s =
    iters_in_range s
    ∷ planes_in_range s
    ∷ full_in_range s
    ∷ gabor_in_range s
    ∷ height_in_range s
    ∷ count_in_range s
    ∷ []

-- the corner, the lengths of both sets, and the settings of the setup
abbrev pub setup_checks : Setup → ℕ → ℕ → List Check
setup_checks s first second =
    filter_on_blocks s
    ∷ set_check s first second
    ∷ settings_checks s

-- the lowest number of the regions, of those, and of frame, table, grids and block sigmas
unfoldable pub number_of : Setup → Frame → List ℕ → List Float → ℕ → ℕ → ℕ → ℕ
number_of s f t grids first second sigmas =
    lowest (lowest (first_of (placed_checks s.image s.filter)) (first_of (setup_checks s first second)))
    (sigma_number (epf_flag s) f (blocks_of s) t grids (sigmas_asked s sigmas))
