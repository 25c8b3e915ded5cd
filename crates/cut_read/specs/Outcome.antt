-- What reading a cut file answers and leaves, for all files and slices (Specification 16). Definitions only.
use Rattle.std.specs.Prelude.{cond, List, ℕ, eqb, length, Result, Ok, Err}
use Rattle.refusals.specs.Checks.{first_of}
use Rattle.refusals.specs.Refusals.{refusal_number}
use Rattle.refusals.specs.declared.Refusal.{Refusal}
use Rattle.region.specs.Regions.{zero_region}
use Rattle.cut_file.specs.Read.{planes_in, count_in, region_in, samples_in, file_checks, region_checks, read_checks}
use Rattle.cut_read.specs.declared.CountAnswer.{CountAnswer}
use Rattle.cut_read.specs.declared.Cut.{Cut}
use Rattle.cut_read.specs.declared.CutAnswer.{CutAnswer}

-- the answer at the C boundary: a count, or 0 beside the number of a refusal
abbrev pub count_answer_of : Result ℕ Refusal → CountAnswer
count_answer_of (Ok n) = record { number = 0; count = n }
count_answer_of (Err e) = record { number = refusal_number e; count = 0 }

-- a rectangle: its region, and the number of planes of the file
abbrev pub cut_in : List ℕ → ℕ → Cut
cut_in s k = record { region = region_in s k; planes = planes_in s }

-- a region and a number of planes, or zeros beside the number of a refusal
abbrev pub cut_answer_of : Result Cut Refusal → CutAnswer
cut_answer_of (Ok c) = record { number = 0; region = c.region; planes = c.planes }
cut_answer_of (Err e) = record { number = refusal_number e; region = zero_region; planes = 0 }

-- the number of rectangles
unfoldable pub count_outcome : List ℕ → CountAnswer
count_outcome s = let n = first_of (file_checks s) in record { number = n; count = cond (eqb n 0) (count_in s) 0 }

-- a rectangle with the number of the call; zeros beside a refusal
unfoldable pub cut_answer : ℕ → List ℕ → ℕ → CutAnswer
cut_answer n s k = record { number = n; region = cond (eqb n 0) (region_in s k) zero_region; planes = cond (eqb n 0) (planes_in s) 0 }

unfoldable pub region_outcome : List ℕ → ℕ → CutAnswer
region_outcome s k = cut_answer (first_of (region_checks s k)) s k

-- the answer and the caller's slice after it
pub record ReadOutcome : Type 0 where
  pub answer : CutAnswer
  pub samples : List ℕ

unfoldable pub read_outcome : List ℕ → ℕ → List ℕ → ReadOutcome
read_outcome s k slice =
    let n = first_of (read_checks s k (length slice)) in
    record { answer = cut_answer n s k; samples = cond (eqb n 0) (samples_in s k) slice }
