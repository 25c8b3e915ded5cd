-- A table of two rectangles, their samples in three planes (NaNs, infinity, −0 and a subnormal number among them) and in one, and the bytes
-- of both files: all premises of the theorem hold of them.
use Rattle.std.specs.Prelude.{◌≡◌, List, [], ◌∷◌, ℕ, pos, negsuc, length, replicate}
use Rattle.refusals.specs.Checks.{first_of}
use Rattle.region.specs.Regions.{zero_region}
use Rattle.cut_file.specs.declared.CutTable.{CutTable}
use Rattle.cut_file.specs.File.{file_of}
use Rattle.cut_file.specs.Read.{file_checks}
use Rattle.cut_file.specs.Write.{rectangle, write_checks}
use Rattle.cut_round.specs.RoundTrip.{EachBelow}

-- one column and two rows from column −3 and row 5; one position, column 0 and row −1
abbrev pub table : CutTable
table = record {
  count = 2;
  regions =
      record { left = negsuc 2; top = pos 5; width = 1; height = 2 }
      ∷ record { left = pos 0; top = negsuc 0; width = 1; height = 1 }
      ∷ replicate 62 zero_region;
}

abbrev pub samples : List ℕ
samples = 0x3f80_0000 ∷ 0x7fc0_0001 ∷ 0xffff_ffff ∷ 0x8000_0000 ∷ 0x0000_0000 ∷ 0x0000_0001 ∷ 0x4049_0fdb ∷ 0xff80_0000 ∷ 0x1234_5678 ∷ []

-- the marker, the count, two entries, nine samples
abbrev pub bytes : List ℕ
bytes =
    0x4b ∷ 0x43 ∷ 0x55 ∷ 0x54
    ∷ 0x02 ∷ 0x00
    ∷ 0x26 ∷ 0x00 ∷ 0x00 ∷ 0x00 ∷ 0xfd ∷ 0xff ∷ 0xff ∷ 0xff ∷ 0x05 ∷ 0x00 ∷ 0x00 ∷ 0x00 ∷ 0x01 ∷ 0x00 ∷ 0x02 ∷ 0x00
    ∷ 0x3e ∷ 0x00 ∷ 0x00 ∷ 0x00 ∷ 0x00 ∷ 0x00 ∷ 0x00 ∷ 0x00 ∷ 0xff ∷ 0xff ∷ 0xff ∷ 0xff ∷ 0x01 ∷ 0x00 ∷ 0x01 ∷ 0x00
    ∷ 0x00 ∷ 0x00 ∷ 0x80 ∷ 0x3f
    ∷ 0x01 ∷ 0x00 ∷ 0xc0 ∷ 0x7f
    ∷ 0xff ∷ 0xff ∷ 0xff ∷ 0xff
    ∷ 0x00 ∷ 0x00 ∷ 0x00 ∷ 0x80
    ∷ 0x00 ∷ 0x00 ∷ 0x00 ∷ 0x00
    ∷ 0x01 ∷ 0x00 ∷ 0x00 ∷ 0x00
    ∷ 0xdb ∷ 0x0f ∷ 0x49 ∷ 0x40
    ∷ 0x00 ∷ 0x00 ∷ 0x80 ∷ 0xff
    ∷ 0x78 ∷ 0x56 ∷ 0x34 ∷ 0x12
    ∷ []

-- one plane of the same rectangles: three samples
abbrev pub grey_samples : List ℕ
grey_samples = 0x7fc0_0001 ∷ 0x8000_0000 ∷ 0x1234_5678 ∷ []

abbrev pub grey_bytes : List ℕ
grey_bytes =
    0x4b ∷ 0x43 ∷ 0x55 ∷ 0x31 ∷ 0x02 ∷ 0x00
    ∷ 0x26 ∷ 0x00 ∷ 0x00 ∷ 0x00 ∷ 0xfd ∷ 0xff ∷ 0xff ∷ 0xff ∷ 0x05 ∷ 0x00 ∷ 0x00 ∷ 0x00 ∷ 0x01 ∷ 0x00 ∷ 0x02 ∷ 0x00
    ∷ 0x2e ∷ 0x00 ∷ 0x00 ∷ 0x00 ∷ 0x00 ∷ 0x00 ∷ 0x00 ∷ 0x00 ∷ 0xff ∷ 0xff ∷ 0xff ∷ 0xff ∷ 0x01 ∷ 0x00 ∷ 0x01 ∷ 0x00
    ∷ 0x01 ∷ 0x00 ∷ 0xc0 ∷ 0x7f
    ∷ 0x00 ∷ 0x00 ∷ 0x00 ∷ 0x80
    ∷ 0x78 ∷ 0x56 ∷ 0x34 ∷ 0x12
    ∷ []

-- the bytes are the file of the table and the samples; writing it and reading it are accepted
abbrev pub FileMet : ℕ → List ℕ → List ℕ → Type 0
FileMet planes xs s = (file_of planes (rectangle table) table.count xs ≡ s)
    × EachBelow 4294967296 xs × (first_of (write_checks planes table (length xs) (length s)) ≡ 0)
    × EachBelow 256 s × (first_of (file_checks s) ≡ 0)

-- of three planes and of one
abbrev pub PremisesMet : Type 0
PremisesMet = FileMet 3 samples bytes × FileMet 1 grey_samples grey_bytes
