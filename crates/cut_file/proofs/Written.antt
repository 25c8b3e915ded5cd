-- A file written from rectangles within the limits is accepted. Assumes nothing.
use mathlib.Core.Path.{◌≡◌, refl, sym, ap, ◌∙◌}
use mathlib.Core.Bool.{Bool, true, false, cond, not}
use mathlib.Core.List.{List, ◌++◌}
use Prim.Native.Nat.{ℕ, zero, suc, ◌+◌, ◌≤◌, ◌<◌}
use native.Mathlib.Omega.{arith}
use borrow.Author.Tests.{le-ltb, eq-eqb, ne_eqb}
use lib.Dec.{T, eqb, ltb}
use lib.ListN.{length}
use Rattle.refusals.specs.Checks.{first_of}
use Rattle.refusals.proofs.Tables.{is_true, NoneApplies, none-zero}
use Rattle.planes.specs.Band.{planes_fit}
use Rattle.region.specs.declared.Region.{Region}
use Rattle.region.specs.Measures.{picture_fits}
use Rattle.cut_bytes.specs.Bytes.{bytes_of}
use Rattle.cut_file.specs.File.{marker, grey_marker, entry_at, body_at, file_length, table_bytes, sample_bytes, file_of}
use Rattle.cut_file.specs.Read.{planes_in, count_in, offset_in, region_in, has_marker, bad_count, entry_fits, entry_checks, file_checks}
use Rattle.cut_file.specs.Write.{samples_before}
use Rattle.cut_file.proofs.Laws.{body-grows}
use Rattle.cut_file.proofs.FileLaws.{body-at, body_same, length-file, planes-back, count-back, offset-back, region-back}

-- what writing accepts: n rectangles within the limits and all their samples, in a file that is not too long
pub record WriteAccepted (planes : ℕ) (rs : ℕ → Region) (n : ℕ) (samples : List ℕ) : Type 0 where
  pub planes-are : planes_fit planes ≡ true
  pub count-pos : 1 ≤ n
  pub count-le : n ≤ 64
  pub fit : (i : ℕ) → i < n → T (picture_fits (rs i))
  pub all : length samples ≡ samples_before planes rs n
  pub short : file_length planes rs n ≤ 16777216

module _ (planes : ℕ) (rs : ℕ → Region) (n : ℕ) (samples : List ℕ) (a : WriteAccepted planes rs n samples) where
  pub count-in : count_in (file_of planes rs n samples) ≡ n
  count-in = count-back planes rs n samples (omega (arith, a.count-le))

  pub planes-in : planes_in (file_of planes rs n samples) ≡ planes
  planes-in = planes-back planes rs n samples a.planes-are

  pub region-in : (i : ℕ) → i < n → region_in (file_of planes rs n samples) i ≡ rs i
  region-in i h = region-back planes rs n samples i h (a.fit i h)

  pub body-in : (i : ℕ) → i ≤ n → body_at (planes_in (file_of planes rs n samples)) (region_in (file_of planes rs n samples)) (count_in (file_of planes rs n samples)) i ≡ body_at planes rs n i
  body-in i h = rw (planes-in, count-in) (body_same planes (region_in (file_of planes rs n samples)) rs n i (λ j l. region-in j (omega arith)))

  length-is : length (file_of planes rs n samples) ≡ file_length planes rs n
  length-is = length-file planes rs n samples ∙ rw a.all (sym (body-at planes rs n n))

  entry-fits : (i j : ℕ) → i + suc j ≡ n → entry_fits (file_of planes rs n samples) i ≡ true
  entry-fits i j e =
      let h : i < n = omega arith in
      let o : offset_in (file_of planes rs n samples) i ≡ body_at planes rs n i = offset-back planes rs n samples i h (omega (arith, body-grows planes rs n i n (omega arith), a.short)) in
      rw (region-in i h, is_true (picture_fits (rs i)) (a.fit i h))
      (eq-eqb (offset_in (file_of planes rs n samples) i) (body_at (planes_in (file_of planes rs n samples)) (region_in (file_of planes rs n samples)) (count_in (file_of planes rs n samples)) i) (o ∙ sym (body-in i (omega arith))))

  entries-pass : (i j : ℕ) → i + j ≡ n → NoneApplies (entry_checks (file_of planes rs n samples) i j)
  unfolding entry_checks
  entries-pass i zero e =
      let l : length (file_of planes rs n samples) ≡ body_at (planes_in (file_of planes rs n samples)) (region_in (file_of planes rs n samples)) (count_in (file_of planes rs n samples)) i
      = length-is ∙ ap (λ (k : ℕ). body_at planes rs n k) (omega arith) ∙ sym (body-in i (omega arith)) in
      (ap not (eq-eqb (length (file_of planes rs n samples)) (body_at (planes_in (file_of planes rs n samples)) (region_in (file_of planes rs n samples)) (count_in (file_of planes rs n samples)) i) l), tt)
  entries-pass i (suc j) e =
      (le-ltb (length (file_of planes rs n samples)) (entry_at (i + 1)) (rw (length-file planes rs n samples) (omega arith)), (ap not (entry-fits i j e), entries-pass (i + 1) j (omega arith)))

  is-marked : has_marker (file_of planes rs n samples) ≡ true
  unfolding file_of
  is-marked = go (eqb planes 1)
    where
      go : (b : Bool) → has_marker (cond b grey_marker marker ++ (bytes_of 2 n ++ (table_bytes planes rs n n ++ sample_bytes samples))) ≡ true
      go true = refl
      go false = refl

  good-count : bad_count (count_in (file_of planes rs n samples)) ≡ false
  good-count = rw (count-in, ne_eqb n 0 (λ e. omega (arith, a.count-pos)), le-ltb 64 n a.count-le)

  room : (m : ℕ) → m ≤ 6 → ltb (length (file_of planes rs n samples)) m ≡ false
  room m h = le-ltb (length (file_of planes rs n samples)) m (rw (length-file planes rs n samples) (omega arith))

  entries : NoneApplies (entry_checks (file_of planes rs n samples) 0 (count_in (file_of planes rs n samples)))
  entries = rw count-in (entries-pass 0 n (omega arith))

  pub written-passes : NoneApplies (file_checks (file_of planes rs n samples))
  unfolding file_checks
  written-passes = (
    le-ltb 16777216 (length (file_of planes rs n samples)) (omega (arith, length-is, a.short)),
    (room 4 (omega arith), (ap not is-marked, (room 6 (omega arith), (good-count, entries)))),
  )

  pub written-accepted : first_of (file_checks (file_of planes rs n samples)) ≡ 0
  written-accepted = none-zero (file_checks (file_of planes rs n samples)) written-passes
