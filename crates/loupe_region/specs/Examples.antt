-- Widened rectangles and numbers of calls, computed (Specification 17.2, 17.3). Assumes nothing.
use Rattle.std.specs.Prelude.{◌≡◌, refl, ℕ, ℤ, pos, negsuc}
use Rattle.refusals.specs.Checks.{first_of}
use Rattle.region.specs.declared.Region.{Region}
use Rattle.region.specs.Measures.{bounds_fit, picture_fits, rectangle_fits}
use Rattle.region.specs.Regions.{inside, region_of}
use Rattle.region_axis.specs.Measures.{corner_fits, side_fits}
use Rattle.run_passes.specs.Plan.{margin_checks}
use Rattle.run_passes.specs.Makers.{gabor_of, even_weights, no_settings, with_gabor, with_iters}
use Rattle.planes.specs.Samples.{b0}
use Rattle.loupe_region.specs.declared.LoupeSetup.{LoupeSetup}
use Rattle.loupe_region.specs.Widened.{widened}
use Rattle.loupe_region.specs.Outcome.{rectangle_checks, widened_checks}

abbrev region : ℤ → ℤ → ℕ → ℕ → Region
region l t w h = record { left = l; top = t; width = w; height = h }

-- margin 7: left is 20 − 7 = 13, moved down to 8, and the last column is 25 + 7 = 32; rows end with the whole
pub plain : widened 7 (region (pos 0) (pos 0) 100 80) (region (pos 20) (pos 30) 6 45) ≡ region (pos 8) (pos 16) 25 64
unfolding widened region_of
plain = refl

-- the smallest left and the largest top: left is −1,048,583 and moved down before the intersection, and no limit is applied to it
pub at-the-limits : widened 7 (region (negsuc 1048575) (pos 1048576) 16384 1024) (region (negsuc 1048575) (pos 1048576) 1 600) ≡ region (negsuc 1048575) (pos 1048576) 8 607
unfolding widened region_of
at-the-limits = refl

-- with the EPF off the whole may start anywhere: left is −3 − 1 = −4, moved down to −8 and clipped to −5
pub below-zero : widened 1 (region (negsuc 4) (negsuc 4) 20 20) (region (negsuc 2) (negsuc 2) 2 2) ≡ region (negsuc 4) (negsuc 4) 5 5
unfolding widened region_of
below-zero = refl

-- multiples of 8 count from 0 and not from the corner of the whole: left is 10 − 1 = 9, moved down to 8
pub from_zero : widened 1 (region (negsuc 4) (negsuc 4) 40 40) (region (pos 10) (pos 10) 2 2) ≡ region (pos 8) (pos 8) 5 5
unfolding widened region_of
from_zero = refl

-- margin 0: left is moved down from 15 to 8, and top, a multiple of 8, stays
pub moved_down : widened 0 (region (pos 0) (pos 0) 100 100) (region (pos 15) (pos 16) 10 10) ≡ region (pos 8) (pos 16) 17 10
unfolding widened region_of
moved_down = refl

-- ---- numbers, with three iterations

abbrev three_of : Region → Region → LoupeSetup
three_of whole wanted = record { whole = whole; wanted = wanted; planes = 3; settings = with_iters 3 no_settings }

-- an empty wanted rectangle is within the limits: 15, not 4
pub empty : first_of (widened_checks (three_of (region (pos 0) (pos 0) 8 8) (region (pos 3) (pos 3) 0 2))) ≡ 15
unfolding widened_checks rectangle_checks margin_checks picture_fits rectangle_fits bounds_fit corner_fits side_fits inside
empty = refl

-- a wanted rectangle that ends one column past the whole
pub past : first_of (widened_checks (three_of (region (pos 0) (pos 0) 8 8) (region (pos 7) (pos 0) 2 1))) ≡ 15
unfolding widened_checks rectangle_checks margin_checks picture_fits rectangle_fits bounds_fit corner_fits side_fits inside
past = refl

-- a wanted area over the limit, and not inside the whole: 4 before 15
pub large : first_of (widened_checks (three_of (region (pos 0) (pos 0) 8 8) (region (pos 0) (pos 0) 16384 16384))) ≡ 4
unfolding widened_checks rectangle_checks margin_checks picture_fits rectangle_fits bounds_fit corner_fits side_fits inside
large = refl

-- a whole that starts at column 4
pub off-blocks : first_of (widened_checks (three_of (region (pos 4) (pos 0) 8 8) (region (pos 4) (pos 0) 1 1))) ≡ 6
unfolding widened_checks rectangle_checks margin_checks picture_fits rectangle_fits bounds_fit corner_fits side_fits inside
off-blocks = refl

-- and a wanted rectangle not inside it: 15 before 6
pub outside-off-blocks : first_of (widened_checks (three_of (region (pos 4) (pos 0) 8 8) (region (pos 3) (pos 0) 1 1))) ≡ 15
unfolding widened_checks rectangle_checks margin_checks picture_fits rectangle_fits bounds_fit corner_fits side_fits inside
outside-off-blocks = refl

-- and Gabor's `enabled` is 2: 6 before 9
pub flag-two : first_of (widened_checks (record { whole = region (pos 4) (pos 0) 8 8; wanted = region (pos 4) (pos 0) 1 1; planes = 3; settings = with_gabor (gabor_of 2 (even_weights b0 b0)) (with_iters 3 no_settings) })) ≡ 6
unfolding widened_checks rectangle_checks margin_checks picture_fits rectangle_fits bounds_fit corner_fits side_fits inside
flag-two = refl

-- and four iterations: 6 is passed over
pub four-iterations : first_of (widened_checks (record { whole = region (pos 4) (pos 0) 8 8; wanted = region (pos 4) (pos 0) 1 1; planes = 3; settings = with_iters 4 no_settings })) ≡ 9
unfolding widened_checks rectangle_checks margin_checks picture_fits rectangle_fits bounds_fit corner_fits side_fits inside
four-iterations = refl

-- the number of planes: 1 is accepted, 2 is not, and it is looked at after the rest
abbrev planes_of : ℕ → Region → LoupeSetup
planes_of planes wanted = record { whole = region (pos 0) (pos 0) 8 8; wanted = wanted; planes = planes; settings = with_iters 3 no_settings }

pub planes : (first_of (widened_checks (planes_of 1 (region (pos 0) (pos 0) 1 1))) ≡ 0) × (first_of (widened_checks (planes_of 2 (region (pos 0) (pos 0) 1 1))) ≡ 9) × (first_of (widened_checks (planes_of 2 (region (pos 8) (pos 0) 1 1))) ≡ 15)
unfolding widened_checks rectangle_checks margin_checks picture_fits rectangle_fits bounds_fit corner_fits side_fits inside
planes = (refl, refl, refl)
