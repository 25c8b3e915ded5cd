-- The answer of each function (Specification 6.1, 6.4): the number of the first check that applies, and the region, zeros if refused.
use Rattle.std.specs.Prelude.{Bool, cond, not, List, [], ◌∷◌, ℕ, eqb, leb, ℤ}
use Rattle.refusals.specs.Numbers.{out_of_limits, out_of_range}
use Rattle.refusals.specs.Checks.{Check, always, given, first_of}
use Rattle.region_interval.specs.Interval.{power_below}
use Rattle.region.specs.Measures.{bounds_fit}
use Rattle.region.specs.Regions.{zero_region}
use Rattle.region.specs.Answers.{measured_check, given_checks, pair_checks}
use Rattle.region.specs.declared.Region.{Region}
use Rattle.region_arithmetic.specs.Arithmetic.{translated, intersected, padded_by, downsampled, aligned_to}
use Rattle.region_arithmetic.specs.declared.RegionAnswer.{RegionAnswer}

unfoldable pub region_answer : ℕ → Region → RegionAnswer
region_answer n r = record { number = n; region = cond (eqb n 0) r zero_region }

-- ---- tables of checks: the given regions, then the result

abbrev pub made_checks : Region → Region → List Check
made_checks r made = measured_check r ∷ measured_check made ∷ []

-- the result is checked only if the setting that it needs is in range
abbrev pub made_check : Bool → Region → Check
made_check sound made = given sound out_of_limits (not (bounds_fit made))

abbrev pub setting_check : Bool → Check
setting_check sound = always out_of_range (not sound)

abbrev pub setting_checks : Region → Bool → Region → List Check
setting_checks r sound made = measured_check r ∷ made_check sound made ∷ setting_check sound ∷ []

-- downsampling factors: 0 to 16
abbrev pub is_factor : ℕ → Bool
is_factor f = leb f 16

-- alignments: the powers of two from 1 to 8,192
abbrev pub is_alignment : ℕ → Bool
is_alignment d = power_below 14 d

-- the number of a resulting region: 4 if it exceeds the limits
unfoldable pub region_number : Region → ℕ
region_number r = first_of (given_checks r)

-- ---- the outcome of each public function, for every input

abbrev pub translate_outcome : Region → ℤ → ℤ → RegionAnswer
translate_outcome r x y = region_answer (first_of (made_checks r (translated x y r))) (translated x y r)

abbrev pub intersection_outcome : Region → Region → RegionAnswer
intersection_outcome a b = region_answer (first_of (pair_checks a b)) (intersected a b)

abbrev pub pad_outcome : Region → ℕ → RegionAnswer
pad_outcome r size = region_answer (first_of (made_checks r (padded_by size r))) (padded_by size r)

abbrev pub downsample_outcome : Region → ℕ → RegionAnswer
downsample_outcome r factor = region_answer (first_of (setting_checks r (is_factor factor) (downsampled factor r))) (downsampled factor r)

abbrev pub aligned_outcome : Region → ℕ → RegionAnswer
aligned_outcome r dim = region_answer (first_of (setting_checks r (is_alignment dim) (aligned_to dim r))) (aligned_to dim r)
