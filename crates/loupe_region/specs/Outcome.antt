-- The checks of a wanted rectangle, and what `loupe_widened` returns (Specification 17.3). Definitions only.
use Rattle.std.specs.Prelude.{Bool, cond, not, ◌&&◌, ◌||◌, List, [], ◌∷◌, ◌++◌, eqb, ltb}
use Rattle.refusals.specs.Numbers.{out_of_limits, not_on_blocks, wanted_outside, out_of_range}
use Rattle.refusals.specs.Checks.{Check, always, first_of}
use Rattle.region.specs.declared.Region.{Region}
use Rattle.region.specs.Measures.{picture_fits, rectangle_fits}
use Rattle.region.specs.Regions.{zero_region, is_empty, inside}
use Rattle.region_arithmetic.specs.declared.RegionAnswer.{RegionAnswer}
use Rattle.region_placement.specs.Blocks.{on_blocks}
use Rattle.planes.specs.Band.{planes_fit}
use Rattle.run_passes.specs.Plan.{iterations_fit, margin, margin_checks}
use Rattle.loupe_region.specs.declared.LoupeSetup.{LoupeSetup}
use Rattle.loupe_region.specs.Widened.{widened}

-- ---- the checks, by name

-- the limits of the whole, which is a filter region, and of the wanted rectangle, which may be empty
abbrev pub regions_in_limits : LoupeSetup → Check
regions_in_limits s = always out_of_limits (not (picture_fits s.whole && rectangle_fits s.wanted))

-- empty, or not inside the whole
abbrev pub bad_wanted : Region → Region → Bool
bad_wanted whole wanted = is_empty wanted || not (inside whole wanted)

abbrev pub wanted_inside : LoupeSetup → Check
wanted_inside s = always wanted_outside (bad_wanted s.whole s.wanted)

-- the EPF is on, its iterations in range, and the whole does not start at multiples of 8
abbrev pub off_blocks : LoupeSetup → Bool
off_blocks s = (iterations_fit s.settings && ltb 0 s.settings.epf.iters) && not (on_blocks s.whole)

abbrev pub whole_on_blocks : LoupeSetup → Check
whole_on_blocks s = always not_on_blocks (off_blocks s)

-- ---- the outcome

-- the checks on which the widened rectangle depends
unfoldable pub rectangle_checks : LoupeSetup → List Check
rectangle_checks s = regions_in_limits s ∷ wanted_inside s ∷ whole_on_blocks s ∷ margin_checks s.settings

abbrev pub planes_one_or_three : LoupeSetup → Check
planes_one_or_three s = always out_of_range (not (planes_fit s.planes))

-- then the number of planes, on which it does not
unfoldable pub widened_checks : LoupeSetup → List Check
widened_checks s = rectangle_checks s ++ (planes_one_or_three s ∷ [])

-- widened by the margin of the settings
abbrev pub widened_region : LoupeSetup → Region
widened_region s = widened (margin s.settings) s.whole s.wanted

unfoldable pub widened_outcome : LoupeSetup → RegionAnswer
widened_outcome s = let n = first_of (widened_checks s) in record { number = n; region = cond (eqb n 0) (widened_region s) zero_region }
