-- Writing a cut file, computed: the order of its numbers, 12, 4, 7 and 9, and the slice after a refusal.
use Rattle.std.specs.Prelude.{◌≡◌, refl, [], ◌∷◌, ℕ, pos, replicate}
use Rattle.refusals.specs.Checks.{first_of}
use Rattle.region.specs.declared.Region.{Region}
use Rattle.region.specs.Measures.{bounds_fit, picture_fits}
use Rattle.region.specs.Regions.{zero_region}
use Rattle.region_axis.specs.Measures.{corner_fits, side_fits}
use Rattle.cut_file.specs.declared.CutTable.{CutTable}
use Rattle.cut_file.specs.File.{body_at}
use Rattle.cut_file.specs.Write.{rectangles_fit, samples_before, table_checks, length_checks, write_checks}
use Rattle.cut_write.specs.Outcome.{length_outcome, write_outcome}

-- the first n of 64 equal regions
abbrev table_of : ℕ → Region → CutTable
table_of n r = record { count = n; regions = replicate 64 r }

abbrev one : Region
one = record { left = pos 0; top = pos 0; width = 1; height = 1 }

abbrev huge : Region
huge = record { left = pos 0; top = pos 0; width = 4096; height = 4096 }

-- 6 + 2 × 16 + 2 × 12 bytes
pub length-of-two : length_outcome (table_of 2 one) 3 ≡ record { number = 0; length = 62 }
unfolding length_outcome length_checks table_checks rectangles_fit body_at picture_fits bounds_fit corner_fits side_fits
length-of-two = refl

-- of one plane: 6 + 2 × 16 + 2 × 4 bytes
pub grey_length-of-two : length_outcome (table_of 2 one) 1 ≡ record { number = 0; length = 46 }
unfolding length_outcome length_checks table_checks rectangles_fit body_at picture_fits bounds_fit corner_fits side_fits
grey_length-of-two = refl

-- two planes: 9, also where the file of three planes would be too long
pub two-planes : length_outcome (table_of 1 huge) 2 ≡ record { number = 9; length = 0 }
unfolding length_outcome length_checks table_checks rectangles_fit body_at picture_fits bounds_fit corner_fits side_fits
two-planes = refl

-- the count is wrong, and so are the rectangle and the slices: 12
pub count-first : write_outcome (table_of 65 zero_region) 3 [] (1 ∷ []) ≡ record { number = 12; file = 1 ∷ [] }
unfolding write_outcome write_checks table_checks rectangles_fit samples_before body_at picture_fits bounds_fit corner_fits side_fits
count-first = refl

-- the rectangle and the slices are wrong: 4
pub rectangle-next : write_outcome (table_of 1 zero_region) 3 [] (1 ∷ []) ≡ record { number = 4; file = 1 ∷ [] }
unfolding write_outcome write_checks table_checks rectangles_fit samples_before body_at picture_fits bounds_fit corner_fits side_fits
rectangle-next = refl

-- the file would be too long: 7; no length beside it
pub too_long : length_outcome (table_of 1 huge) 3 ≡ record { number = 7; length = 0 }
unfolding length_outcome length_checks table_checks rectangles_fit body_at picture_fits bounds_fit corner_fits side_fits
too_long = refl

-- a slice one byte too long: 7
pub long-slice : write_outcome (table_of 1 one) 3 (1 ∷ 2 ∷ 3 ∷ []) (replicate 35 9) ≡ record { number = 7; file = replicate 35 9 }
unfolding write_outcome write_checks table_checks rectangles_fit samples_before body_at picture_fits bounds_fit corner_fits side_fits
long-slice = refl

-- two planes, and slices of other lengths than any number of planes needs: 9
pub two-planes_written : write_outcome (table_of 1 one) 2 [] (1 ∷ []) ≡ record { number = 9; file = 1 ∷ [] }
unfolding write_outcome write_checks table_checks rectangles_fit samples_before body_at picture_fits bounds_fit corner_fits side_fits
two-planes_written = refl

-- a slice longer than any file: 7, whatever the number of planes
pub two-planes_long : first_of (write_checks 2 (table_of 1 one) 0 16777217) ≡ 7
unfolding write_checks table_checks rectangles_fit samples_before body_at picture_fits bounds_fit corner_fits side_fits
two-planes_long = refl
