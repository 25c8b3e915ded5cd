-- Reading cut files of two rectangles, computed: the answers, and the slice after them.
use Rattle.std.specs.Prelude.{◌≡◌, refl, [], ◌∷◌, take}
use Rattle.cut_bytes.specs.Bytes.{bytes_of, number_at}
use Rattle.region.specs.Measures.{bounds_fit, picture_fits}
use Rattle.region.specs.Regions.{zero_region}
use Rattle.region_axis.specs.Measures.{corner_fits, side_fits}
use Rattle.cut_file.specs.File.{body_at, table_bytes, sample_bytes, file_of}
use Rattle.cut_file.specs.Read.{samples_at, entry_checks, file_checks, region_checks, read_checks}
use Rattle.cut_file.specs.Examples.{second, file, grey_file}
use Rattle.cut_read.specs.Outcome.{count_outcome, cut_answer, read_outcome}

pub two-rectangles : count_outcome file ≡ record { number = 0; count = 2 }
unfolding count_outcome file_of table_bytes bytes_of body_at sample_bytes file_checks entry_checks number_at picture_fits bounds_fit corner_fits side_fits
two-rectangles = refl

-- cut off after its first entry: no count beside the refusal
pub cut_off : count_outcome (take 22 file) ≡ record { number = 14; count = 0 }
unfolding count_outcome file_of table_bytes bytes_of body_at sample_bytes file_checks entry_checks number_at picture_fits bounds_fit corner_fits side_fits
cut_off = refl

-- rectangle 1 with its samples
pub second-read : read_outcome file 1 (0 ∷ 0 ∷ 0 ∷ []) ≡ record { answer = record { number = 0; region = second; planes = 3 }; samples = 7 ∷ 8 ∷ 9 ∷ [] }
unfolding read_outcome cut_answer read_checks region_checks samples_at file_of table_bytes bytes_of body_at sample_bytes file_checks entry_checks number_at picture_fits bounds_fit corner_fits side_fits
second-read = refl

-- the same of a file of one plane
pub grey_second-read : read_outcome grey_file 1 (0 ∷ []) ≡ record { answer = record { number = 0; region = second; planes = 1 }; samples = 7 ∷ [] }
unfolding read_outcome cut_answer read_checks region_checks samples_at file_of table_bytes bytes_of body_at sample_bytes file_checks entry_checks number_at picture_fits bounds_fit corner_fits side_fits
grey_second-read = refl

-- rectangle 2 of 2: zeros beside 9, and the slice as it was
pub third-read : read_outcome file 2 (1 ∷ 2 ∷ []) ≡ record { answer = record { number = 9; region = zero_region; planes = 0 }; samples = 1 ∷ 2 ∷ [] }
unfolding read_outcome cut_answer read_checks region_checks samples_at file_of table_bytes bytes_of body_at sample_bytes file_checks entry_checks number_at picture_fits bounds_fit corner_fits side_fits
third-read = refl

-- a slice for two samples where there are three
pub short-slice : read_outcome file 1 (1 ∷ 2 ∷ []) ≡ record { answer = record { number = 7; region = zero_region; planes = 0 }; samples = 1 ∷ 2 ∷ [] }
unfolding read_outcome cut_answer read_checks region_checks samples_at file_of table_bytes bytes_of body_at sample_bytes file_checks entry_checks number_at picture_fits bounds_fit corner_fits side_fits
short-slice = refl
