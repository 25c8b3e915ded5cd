-- The outcome of one step of the edge-preserving filter on rows of the result region, for every input: the numbers are those of
-- Specification 9.4. Definitions only; proofs/Fits.antt has their laws.
use Rattle.std.specs.Prelude.{◌&&◌, not, List, [], ◌∷◌, ◌++◌, ℕ, ◌*◌, eqb, ltb, length, Float}
use Rattle.refusals.specs.Numbers.{not_on_blocks, wrong_length, out_of_range}
use Rattle.refusals.specs.Checks.{Check, always, given, first_of}
use Rattle.refusals.specs.Flags.{flag_fits, flag_set}
use Rattle.region.specs.declared.Region.{Region}
use Rattle.region_placement.specs.Placed.{placed_checks}
use Rattle.planes.specs.declared.Layout.{Layout}
use Rattle.planes.specs.Picture.{Picture}
use Rattle.planes.specs.Band.{inner, passed, planes_fit, rows_fit}
use Rattle.planes_layout.specs.Outcome.{layout_of, planes_check, flag_check, PassOutcome, pass_outcome}
use Rattle.epf_step.specs.Steps.{scaled, standard_limit, EpfPass, epf_pass}
use Rattle.epf_tiles.specs.Blocks.{block_columns, sigma_of, block_rows}
use Rattle.epf.specs.declared.EpfStep.{EpfStep}
use Rattle.region_placement.specs.Blocks.{clamp_to_zero, on_blocks}

-- the settings that a step reads, for n planes, with the copying limit (Specification 11.4)
abbrev pub settings_of : ℕ → EpfStep → EpfPass
settings_of n s = record { step = s.step; limit = standard_limit; scales = scaled n s.channel_scale; multiplier = s.multiplier; border_mul = s.border_sad_mul }

-- The step over the filter region. Its row 0 is at y = `top`; sigmas are stored row of blocks by row of blocks.
abbrev pub epf_over : ℕ → Layout → EpfStep → ℕ → List Float → List Float → Picture
epf_over n l s top sigmas src = epf_pass (settings_of n s) l.width l.height top (sigma_of (block_columns l) sigmas) (inner l src)

-- ---- the checks of a filter region inside the image region (Specification 9.4)

abbrev pub corner_check : Region → Check
corner_check filter = always not_on_blocks (not (on_blocks filter))

-- the two sets, which are checked only if the number of planes is in range
abbrev pub sets_check : ℕ → Layout → ℕ → ℕ → Check
sets_check n l src dst = given (planes_fit n) wrong_length (not (eqb src (n * l.image.height * l.image.width) && eqb dst (n * l.image.height * l.image.width)))

-- the sigmas
abbrev pub sigmas_check : Layout → ℕ → Check
sigmas_check l sigmas = always wrong_length (not (eqb sigmas (block_rows l * block_columns l)))

abbrev pub step_in_range : ℕ → Check
step_in_range step = always out_of_range (ltb 2 step)

-- the rows, which are checked only if the flag `preserve_outside` is in range
abbrev pub step_rows : Layout → ℕ → ℕ → ℕ → Check
step_rows l full from to = given (flag_fits full) out_of_range (not (rows_fit l from to))

-- 6, 7, then 9
unfoldable pub step_checks : ℕ → Layout → Region → ℕ → ℕ → ℕ → ℕ → ℕ → ℕ → ℕ → List Check
step_checks n l filter full step from to sigmas src dst =
    corner_check filter
    ∷ sets_check n l src dst
    ∷ sigmas_check l sigmas
    ∷ planes_check n
    ∷ step_in_range step
    ∷ flag_check full
    ∷ step_rows l full from to
    ∷ []

-- all checks: 4 and 5, then those above
unfoldable pub epf_checks : Region → Region → ℕ → ℕ → EpfStep → List Float → ℕ → ℕ → List Float → List Float → List Check
epf_checks image filter n full s sigmas from to src dst =
    placed_checks image filter ++ step_checks n (layout_of image filter (flag_set full)) filter full s.step from to (length sigmas) (length src) (length dst)

-- A refused step leaves dst unchanged. An accepted step writes rows `from` up to `to` of the result region: its samples inside the filter
-- region, copies outside it.
unfoldable pub epf_outcome : Region → Region → ℕ → ℕ → EpfStep → List Float → ℕ → ℕ → List Float → List Float → PassOutcome
epf_outcome image filter n full s sigmas from to src dst =
    pass_outcome (first_of (epf_checks image filter n full s sigmas from to src dst))
    (passed n (layout_of image filter (flag_set full)) from to (epf_over n (layout_of image filter (flag_set full)) s (clamp_to_zero filter.top) sigmas src) src dst) dst
