-- Cut files of two rectangles, computed: their bytes, what is read back, and files that are refused.
use Rattle.std.specs.Prelude.{◌≡◌, refl, List, [], ◌∷◌, ◌++◌, ℕ, zero, suc, pos, negsuc, length, take, set}
use Rattle.refusals.specs.Checks.{first_of}
use Rattle.region.specs.declared.Region.{Region}
use Rattle.cut_bytes.specs.Bytes.{bytes_of, number_at}
use Rattle.region.specs.Measures.{bounds_fit, picture_fits}
use Rattle.region.specs.Regions.{zero_region}
use Rattle.region_axis.specs.Measures.{corner_fits, side_fits}
use Rattle.cut_file.specs.File.{body_at, table_bytes, sample_bytes, file_of}
use Rattle.cut_file.specs.Read.{planes_in, count_in, region_in, samples_at, samples_in, entry_checks, file_checks, region_checks, read_checks}

-- one column of two rows at (−3, 5), and one sample at (0, 0)
abbrev pub first : Region
first = record { left = negsuc 2; top = pos 5; width = 1; height = 2 }

abbrev pub second : Region
second = record { left = pos 0; top = pos 0; width = 1; height = 1 }

abbrev pub rectangles : ℕ → Region
rectangles zero = first
rectangles (suc zero) = second
rectangles (suc (suc i)) = zero_region

-- six samples and three, as bit patterns: two NaNs are among them
abbrev pub samples : List ℕ
samples = 0x3f80_0000 ∷ 0x7fc0_0001 ∷ 0xffff_ffff ∷ 0 ∷ 0x8000_0000 ∷ 1 ∷ 7 ∷ 8 ∷ 9 ∷ []

abbrev pub file : List ℕ
file = file_of 3 rectangles 2 samples

pub length-is : length file ≡ 74
unfolding file_of table_bytes bytes_of body_at sample_bytes
length-is = refl

-- the marker, the count, the first entry: its body at byte 38
pub starts_with : take 22 file ≡ 0x4b ∷ 0x43 ∷ 0x55 ∷ 0x54 ∷ 2 ∷ 0 ∷ 38 ∷ 0 ∷ 0 ∷ 0 ∷ 0xfd ∷ 0xff ∷ 0xff ∷ 0xff ∷ 5 ∷ 0 ∷ 0 ∷ 0 ∷ 1 ∷ 0 ∷ 2 ∷ 0 ∷ []
unfolding file_of table_bytes bytes_of body_at sample_bytes
starts_with = refl

-- ---- read back

pub file-accepted : first_of (file_checks file) ≡ 0
unfolding file_of table_bytes bytes_of body_at sample_bytes file_checks entry_checks number_at picture_fits bounds_fit corner_fits side_fits
file-accepted = refl

pub count-back : count_in file ≡ 2
unfolding file_of table_bytes bytes_of body_at sample_bytes number_at
count-back = refl

pub first_back : region_in file 0 ≡ first
unfolding file_of table_bytes bytes_of body_at sample_bytes number_at
first_back = refl

pub second_back : region_in file 1 ≡ second
unfolding file_of table_bytes bytes_of body_at sample_bytes number_at
second_back = refl

pub first-samples : samples_in file 0 ≡ take 6 samples
unfolding file_of table_bytes bytes_of body_at sample_bytes number_at samples_at
first-samples = refl

pub second-samples : samples_in file 1 ≡ 7 ∷ 8 ∷ 9 ∷ []
unfolding file_of table_bytes bytes_of body_at sample_bytes number_at samples_at
second-samples = refl

-- ---- one plane: a third of the samples, and another marker

abbrev pub grey_file : List ℕ
grey_file = file_of 1 rectangles 2 (0x3f80_0000 ∷ 0x7fc0_0001 ∷ 7 ∷ [])

-- the last byte of the marker is 31
pub grey_length-is : length grey_file ≡ 50
unfolding file_of table_bytes bytes_of body_at sample_bytes
grey_length-is = refl

pub grey_starts_with : take 6 grey_file ≡ 0x4b ∷ 0x43 ∷ 0x55 ∷ 0x31 ∷ 2 ∷ 0 ∷ []
unfolding file_of table_bytes bytes_of body_at sample_bytes
grey_starts_with = refl

pub grey_accepted : first_of (file_checks grey_file) ≡ 0
unfolding file_of table_bytes bytes_of body_at sample_bytes file_checks entry_checks number_at picture_fits bounds_fit corner_fits side_fits
grey_accepted = refl

-- each marker says its number of planes
pub planes-back : planes_in file ≡ 3
unfolding file_of
planes-back = refl

pub grey_planes-back : planes_in grey_file ≡ 1
unfolding file_of
grey_planes-back = refl

-- the body of rectangle 1 starts at byte 46, after two samples
pub grey_second-samples : samples_in grey_file 1 ≡ 7 ∷ []
unfolding file_of table_bytes bytes_of body_at sample_bytes number_at samples_at
grey_second-samples = refl

-- with the other marker, either file is refused: the offset of entry 1 is wrong
pub grey_as-three : first_of (file_checks (set grey_file 3 0x54)) ≡ 13
unfolding file_of table_bytes bytes_of body_at sample_bytes file_checks entry_checks number_at picture_fits bounds_fit corner_fits side_fits
grey_as-three = refl

pub three-as_grey : first_of (file_checks (set file 3 0x31)) ≡ 13
unfolding file_of table_bytes bytes_of body_at sample_bytes file_checks entry_checks number_at picture_fits bounds_fit corner_fits side_fits
three-as_grey = refl

-- a slice for three samples where there is one
pub grey_three-samples : first_of (read_checks grey_file 1 3) ≡ 7
unfolding file_of table_bytes bytes_of body_at sample_bytes read_checks region_checks file_checks entry_checks number_at picture_fits bounds_fit corner_fits side_fits
grey_three-samples = refl

-- ---- refused

-- three bytes: the marker is not complete, so it is not looked at
pub three-bytes : first_of (file_checks (1 ∷ 2 ∷ 3 ∷ [])) ≡ 14
unfolding file_checks
three-bytes = refl

-- no bytes at all
pub empty-file : first_of (file_checks []) ≡ 14
unfolding file_checks
empty-file = refl

pub four-wrong-bytes : first_of (file_checks (0x4b ∷ 0x43 ∷ 0x55 ∷ 0x55 ∷ [])) ≡ 12
unfolding file_checks
four-wrong-bytes = refl

-- five bytes: the count is not complete
pub five-bytes : first_of (file_checks (take 5 file)) ≡ 14
unfolding file_of table_bytes bytes_of body_at sample_bytes file_checks
five-bytes = refl

-- the file ends between its two entries
pub cut-at-22 : first_of (file_checks (take 22 file)) ≡ 14
unfolding file_of table_bytes bytes_of body_at sample_bytes file_checks entry_checks number_at picture_fits bounds_fit corner_fits side_fits
cut-at-22 = refl

-- the file ends inside entry 1, and entry 0 has a wrong offset
pub bad-entry-first : first_of (file_checks (take 30 (set file 6 39))) ≡ 13
unfolding file_of table_bytes bytes_of body_at sample_bytes file_checks entry_checks number_at picture_fits bounds_fit corner_fits side_fits
bad-entry-first = refl

-- entry 0 is not complete, so its offset is not looked at
pub inside-bad-entry : first_of (file_checks (take 21 (set file 6 39))) ≡ 14
unfolding file_of table_bytes bytes_of body_at sample_bytes file_checks entry_checks number_at
inside-bad-entry = refl

-- one byte after the last body
pub longer : first_of (file_checks (file ++ (0 ∷ []))) ≡ 14
unfolding file_of table_bytes bytes_of body_at sample_bytes file_checks entry_checks number_at picture_fits bounds_fit corner_fits side_fits
longer = refl

-- entry 0 has a wrong offset, and the bodies are not there: the entry comes first
pub bad-entry-no-bodies : first_of (file_checks (take 38 (set file 6 39))) ≡ 13
unfolding file_of table_bytes bytes_of body_at sample_bytes file_checks entry_checks number_at picture_fits bounds_fit corner_fits side_fits
bad-entry-no-bodies = refl

-- a count of 0, of 65
pub no-rectangles : first_of (file_checks (set file 4 0)) ≡ 12
unfolding file_of table_bytes bytes_of body_at sample_bytes file_checks entry_checks number_at
no-rectangles = refl

pub too-many-rectangles : first_of (file_checks (set file 4 65)) ≡ 12
unfolding file_of table_bytes bytes_of body_at sample_bytes file_checks entry_checks number_at
too-many-rectangles = refl

-- a rectangle without rows
pub no_rows : first_of (file_checks (set file 20 0)) ≡ 13
unfolding file_of table_bytes bytes_of body_at sample_bytes file_checks entry_checks number_at picture_fits bounds_fit corner_fits side_fits
no_rows = refl

-- rectangle 2 of 2; a slice for two samples where there are three
pub rectangle-2 : first_of (read_checks file 2 3) ≡ 9
unfolding file_of table_bytes bytes_of body_at sample_bytes read_checks region_checks file_checks entry_checks number_at picture_fits bounds_fit corner_fits side_fits
rectangle-2 = refl

pub two-samples : first_of (read_checks file 1 2) ≡ 7
unfolding file_of table_bytes bytes_of body_at sample_bytes read_checks region_checks file_checks entry_checks number_at picture_fits bounds_fit corner_fits side_fits
two-samples = refl
