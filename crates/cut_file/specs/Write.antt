-- Writing a cut file (Specification 16): when it is refused. Definitions only.
use Rattle.std.specs.Prelude.{Bool, true, not, ◌&&◌, List, [], ◌∷◌, ◌++◌, ℕ, zero, suc, ◌+◌, eqb, ltb, get_or}
use Rattle.refusals.specs.Numbers.{out_of_limits, wrong_length, out_of_range, not_aCut_file}
use Rattle.refusals.specs.Checks.{Check, always, given}
use Rattle.region.specs.declared.Region.{Region}
use Rattle.region.specs.Measures.{picture_fits}
use Rattle.region.specs.Regions.{zero_region}
use Rattle.planes.specs.Band.{planes_fit}
use Rattle.cut_file.specs.declared.CutTable.{CutTable}
use Rattle.cut_file.specs.File.{max_file, sample_count, file_length}
use Rattle.cut_file.specs.Read.{bad_count}

-- rectangle i of a table
abbrev pub rectangle : CutTable → ℕ → Region
rectangle t i = get_or t.regions i zero_region

-- rectangles 0 to k - 1 are within the limits of an image region
unfoldable pub rectangles_fit : (ℕ → Region) → ℕ → Bool
rectangles_fit rectangles zero = true
rectangles_fit rectangles (suc k) = rectangles_fit rectangles k && picture_fits (rectangles k)

-- the samples of rectangles 0 to k - 1
unfoldable pub samples_before : ℕ → (ℕ → Region) → ℕ → ℕ
samples_before planes rectangles zero = 0
samples_before planes rectangles (suc k) = samples_before planes rectangles k + sample_count planes (rectangles k)

-- the checks of a table: the count, and each rectangle
unfoldable pub table_checks : CutTable → List Check
table_checks t =
    always not_aCut_file (bad_count t.count)
    ∷ always out_of_limits (not (rectangles_fit (rectangle t) t.count))
    ∷ []

module _ (planes : ℕ) (t : CutTable) where
  -- the length of the file, if the number of planes is in range
  abbrev pub limit_check : Check
  limit_check = given (planes_fit planes) wrong_length (ltb max_file (file_length planes (rectangle t) t.count))

  -- the number of planes, which is looked at last
  abbrev pub planes_last : Check
  planes_last = always out_of_range (not (planes_fit planes))

  unfoldable pub length_checks : List Check
  length_checks = table_checks t ++ (limit_check ∷ planes_last ∷ [])

  -- the lengths of the samples and of the caller's slice for the file; no file is longer than the limit, whatever the number of planes
  unfoldable pub write_checks : ℕ → ℕ → List Check
  write_checks samples file =
      table_checks t
      ++ (always wrong_length (ltb max_file file)
      ∷ limit_check
      ∷ given (planes_fit planes) wrong_length (not (eqb samples (samples_before planes (rectangle t) t.count)))
      ∷ given (planes_fit planes) wrong_length (not (eqb file (file_length planes (rectangle t) t.count)))
      ∷ planes_last
      ∷ [])
