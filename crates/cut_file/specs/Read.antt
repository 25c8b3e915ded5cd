-- Reading a cut file (Specification 16): what is in it, and when it is refused. Definitions only.
use Rattle.std.specs.Prelude.{Bool, cond, not, ◌&&◌, ◌||◌, List, [], ◌∷◌, ◌++◌, ℕ, zero, suc, ◌+◌, eqb, leb, ltb, length, get_or}
use Rattle.refusals.specs.Numbers.{wrong_length, out_of_range, not_aCut_file, bad_entry, wrong_end}
use Rattle.refusals.specs.Checks.{Check, always}
use Rattle.region.specs.declared.Region.{Region}
use Rattle.region.specs.Measures.{picture_fits}
use Rattle.cut_bytes.specs.Bytes.{number_at, signed}
use Rattle.cut_file.specs.File.{marker, grey_marker, max_file, max_rectangles, entry_at, body_at, sample_count}

-- ---- what a file says

-- the first four bytes are these
abbrev pub starts_with : List ℕ → List ℕ → Bool
starts_with m s = eqb (get_or s 0 0) (get_or m 0 0) && (eqb (get_or s 1 0) (get_or m 1 0) && (eqb (get_or s 2 0) (get_or m 2 0) && eqb (get_or s 3 0) (get_or m 3 0)))

-- the number of planes, by the marker
abbrev pub planes_in : List ℕ → ℕ
planes_in s = cond (starts_with grey_marker s) 1 3

abbrev pub count_in : List ℕ → ℕ
count_in s = number_at s 4 2

abbrev pub offset_in : List ℕ → ℕ → ℕ
offset_in s i = number_at s (entry_at i) 4

abbrev pub region_in : List ℕ → ℕ → Region
region_in s i =
    record {
      left = signed (number_at s (entry_at i + 4) 4);
      top = signed (number_at s (entry_at i + 8) 4);
      width = number_at s (entry_at i + 12) 2;
      height = number_at s (entry_at i + 14) 2;
    }

-- n samples from byte `at`
unfoldable pub samples_at : List ℕ → ℕ → ℕ → List ℕ
samples_at s at zero = []
samples_at s at (suc n) = number_at s at 4 ∷ samples_at s (at + 4) n

-- the samples of rectangle k
abbrev pub samples_in : List ℕ → ℕ → List ℕ
samples_in s k = samples_at s (body_at (planes_in s) (region_in s) (count_in s) k) (sample_count (planes_in s) (region_in s k))

-- ---- when a file is refused: its length, then the first fault in the order of its bytes

-- the first four bytes are one of the markers
abbrev pub has_marker : List ℕ → Bool
has_marker s = starts_with marker s || starts_with grey_marker s

abbrev pub bad_count : ℕ → Bool
bad_count n = eqb n 0 || ltb max_rectangles n

-- entry i is within the limits, and its body starts at the end of what precedes it
abbrev pub entry_fits : List ℕ → ℕ → Bool
entry_fits s i = picture_fits (region_in s i) && eqb (offset_in s i) (body_at (planes_in s) (region_in s) (count_in s) i)

-- n entries from entry i on, then the end of the file; a file that ends inside an entry is refused before the entry is looked at
unfoldable pub entry_checks : List ℕ → ℕ → ℕ → List Check
entry_checks s i zero = always wrong_end (not (eqb (length s) (body_at (planes_in s) (region_in s) (count_in s) i))) ∷ []
entry_checks s i (suc n) =
    always wrong_end (ltb (length s) (entry_at (i + 1)))
    ∷ always bad_entry (not (entry_fits s i))
    ∷ entry_checks s (i + 1) n

unfoldable pub file_checks : List ℕ → List Check
file_checks s =
    always wrong_length (ltb max_file (length s))
    ∷ always wrong_end (ltb (length s) 4)
    ∷ always not_aCut_file (not (has_marker s))
    ∷ always wrong_end (ltb (length s) 6)
    ∷ always not_aCut_file (bad_count (count_in s))
    ∷ entry_checks s 0 (count_in s)

-- then the rectangle's number
unfoldable pub region_checks : List ℕ → ℕ → List Check
region_checks s k = file_checks s ++ (always out_of_range (leb (count_in s) k) ∷ [])

-- then the length of the caller's slice
unfoldable pub read_checks : List ℕ → ℕ → ℕ → List Check
read_checks s k len = region_checks s k ++ (always wrong_length (not (eqb len (sample_count (planes_in s) (region_in s k)))) ∷ [])
