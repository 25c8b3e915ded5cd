-- Cut files written and read back (Specification 16.9). Statements only.
use Rattle.std.specs.Prelude.{◌≡◌, List, ℕ, ◌+◌, ◌<◌, length, get_or, take, drop}
use Rattle.refusals.specs.Checks.{first_of}
use Rattle.region.specs.declared.Region.{Region}
use Rattle.planes.specs.Samples.{bits}
use Rattle.cut_file.specs.declared.CutTable.{CutTable}
use Rattle.cut_file.specs.File.{sample_count, entry_at, file_of}
use Rattle.cut_file.specs.Read.{planes_in, count_in, region_in, samples_at, file_checks}
use Rattle.cut_file.specs.Write.{rectangle, samples_before, write_checks}
use Rattle.cut_read.specs.Outcome.{ReadOutcome, count_outcome, read_outcome}
use Rattle.cut_write.specs.Outcome.{WriteOutcome, write_outcome}

-- every element is below m
abbrev pub EachBelow : ℕ → List ℕ → Type 0
EachBelow m s = (i : ℕ) → i < length s → get_or s i 0 < m

-- the samples of rectangle k among those of all rectangles
abbrev pub samples_of : ℕ → (ℕ → Region) → ℕ → List ℕ → List ℕ
samples_of planes rectangles k samples = take (sample_count planes (rectangles k)) (drop (samples_before planes rectangles k) samples)

-- accepted, with rectangle k of a table, the number of planes, and its samples
abbrev pub read_back : ℕ → CutTable → ℕ → List ℕ → ReadOutcome
read_back planes t k samples = record { answer = record { number = 0; region = rectangle t k; planes = planes }; samples = samples_of planes (rectangle t) k samples }

-- Each rectangle of a file that writing accepts is read back: its region, the number of planes, and its samples bit for bit. `file` is the
-- slice to write into and `slice` the one to read into.
abbrev pub RoundTrip : Type 0
RoundTrip = (planes : ℕ) (t : CutTable) (samples file : List ℕ) → EachBelow 4294967296 samples → first_of (write_checks planes t (length samples) (length file)) ≡ 0
    → (k : ℕ) → k < t.count → (slice : List ℕ) → length slice ≡ sample_count planes (rectangle t k)
    → read_outcome (file_of planes (rectangle t) t.count samples) k slice ≡ read_back planes t k samples

-- the same of the two calls: what a call that writes leaves in its slice is read back
abbrev pub WrittenRead : Type 0
WrittenRead = (planes : ℕ) (t : CutTable) (samples file : List ℕ) → EachBelow 4294967296 samples → (write_outcome t planes samples file).number ≡ 0
    → (k : ℕ) → k < t.count → (slice : List ℕ) → length slice ≡ sample_count planes (rectangle t k)
    → read_outcome (write_outcome t planes samples file).file k slice ≡ read_back planes t k samples

-- and it has as many rectangles as the table
abbrev pub WrittenCount : Type 0
WrittenCount = (planes : ℕ) (t : CutTable) (samples file : List ℕ) → (write_outcome t planes samples file).number ≡ 0
    → count_outcome (write_outcome t planes samples file).file ≡ record { number = 0; count = t.count }

-- as numbers (binary32 of IEEE 754), the samples read back are those written
abbrev pub SamplesKept : Type 0
SamplesKept = (planes : ℕ) (t : CutTable) (samples file : List ℕ) → EachBelow 4294967296 samples → (write_outcome t planes samples file).number ≡ 0
    → (k : ℕ) → k < t.count → (slice : List ℕ) → length slice ≡ sample_count planes (rectangle t k)
    → (j : ℕ) → j < sample_count planes (rectangle t k)
    → bits (get_or (read_outcome (write_outcome t planes samples file).file k slice).samples j 0) ≡ bits (get_or samples (samples_before planes (rectangle t) k + j) 0)

-- all samples in a file
abbrev pub all_samples_in : List ℕ → List ℕ
all_samples_in s = samples_at s (entry_at (count_in s)) (samples_before (planes_in s) (region_in s) (count_in s))

-- An accepted file is the file of its own contents: there is one file for the contents.
abbrev pub OneFile : Type 0
OneFile = (s : List ℕ) → EachBelow 256 s → first_of (file_checks s) ≡ 0 → file_of (planes_in s) (region_in s) (count_in s) (all_samples_in s) ≡ s

-- the same of a call that writes: given the contents of an accepted file and a slice of its length, it leaves that file
abbrev pub WrittenAgain : Type 0
WrittenAgain = (s : List ℕ) → EachBelow 256 s → first_of (file_checks s) ≡ 0
    → (t : CutTable) → t.count ≡ count_in s → ((i : ℕ) → i < count_in s → rectangle t i ≡ region_in s i)
    → (file : List ℕ) → length file ≡ length s
    → ◌≡◌ {A = WriteOutcome} (write_outcome t (planes_in s) (all_samples_in s) file) (record { number = 0; file = s })
