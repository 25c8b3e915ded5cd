-- The premises of the theorem hold of the table, and of the samples and bytes of both files, of specs/Example.antt. Assumes nothing.
use mathlib.Core.Path.{◌≡◌, refl}
use mathlib.Core.Bool.{Bool, true, ◌&&◌}
use mathlib.Core.List.{List, [], ◌∷◌}
use Prim.Native.Nat.{ℕ, zero, suc}
use native.Mathlib.Nat.{le_of_suc-le-suc}
use native.Mathlib.Omega.{arith}
use lib.Dec.{T, ltb, ltb→lt}
use lib.Ieee.Fits.{and_l, and_r}
use lib.ListN.{length}
use Rattle.refusals.specs.Checks.{first_of}
use Rattle.region.specs.Measures.{bounds_fit, picture_fits}
use Rattle.region_axis.specs.Measures.{corner_fits, side_fits}
use Rattle.cut_bytes.specs.Bytes.{bytes_of, number_at}
use Rattle.cut_file.specs.File.{body_at, table_bytes, sample_bytes, file_of}
use Rattle.cut_file.specs.Read.{entry_checks, file_checks}
use Rattle.cut_file.specs.Write.{rectangle, rectangles_fit, samples_before, table_checks, write_checks}
use Rattle.cut_round.specs.RoundTrip.{EachBelow}
use Rattle.cut_round.specs.Example.{table, samples, bytes, grey_samples, grey_bytes, PremisesMet}

all-below : ℕ → List ℕ → Bool
all-below m [] = true
all-below m (x ∷ xs) = ltb x m && all-below m xs

each : (m : ℕ) (s : List ℕ) → T (all-below m s) → EachBelow m s
unfolding all-below
each m [] t i h = absurd (omega arith)
each m (x ∷ xs) t zero h = ltb→lt x m (and_l (ltb x m) (all-below m xs) t)
each m (x ∷ xs) t (suc i) h = each m xs (and_r (ltb x m) (all-below m xs) t) i (le_of_suc-le-suc h)

file-is : file_of 3 (rectangle table) table.count samples ≡ bytes
unfolding bytes_of body_at table_bytes sample_bytes file_of
file-is = refl

grey_file-is : file_of 1 (rectangle table) table.count grey_samples ≡ grey_bytes
unfolding bytes_of body_at table_bytes sample_bytes file_of
grey_file-is = refl

write-accepted : first_of (write_checks 3 table (length samples) (length bytes)) ≡ 0
unfolding body_at rectangles_fit samples_before table_checks write_checks bounds_fit picture_fits corner_fits side_fits
write-accepted = refl

grey_write-accepted : first_of (write_checks 1 table (length grey_samples) (length grey_bytes)) ≡ 0
unfolding body_at rectangles_fit samples_before table_checks write_checks bounds_fit picture_fits corner_fits side_fits
grey_write-accepted = refl

read-accepted : first_of (file_checks bytes) ≡ 0
unfolding number_at body_at entry_checks file_checks bounds_fit picture_fits corner_fits side_fits
read-accepted = refl

grey_read-accepted : first_of (file_checks grey_bytes) ≡ 0
unfolding number_at body_at entry_checks file_checks bounds_fit picture_fits corner_fits side_fits
grey_read-accepted = refl

pub premises-met : PremisesMet
unfolding all-below
premises-met = (
  (file-is, each 4294967296 samples tt, write-accepted, each 256 bytes tt, read-accepted),
  (grey_file-is, each 4294967296 grey_samples tt, grey_write-accepted, each 256 grey_bytes tt, grey_read-accepted),
)
