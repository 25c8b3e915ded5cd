-- Cut files written and read back (Specification 16.9). Assumes nothing.
use mathlib.Core.Path.{◌≡◌, refl, sym, ap, ◌∙◌}
use mathlib.Core.Bool.{Bool, true, false, cond, not}
use mathlib.Core.List.{List, [], ◌∷◌, ◌++◌, append_assoc}
use Prim.Native.Nat.{ℕ, zero, suc, ◌+◌, ◌*◌, ◌≤◌, ◌<◌}
use native.Mathlib.Omega.{arith}
use borrow.Author.Tests.{ltb-true, ltb-false, le-ltb, lt-leb, eq-eqb, ne_eqb}
use lib.Dec.{T, eqb, leb, ltb, eqb→eq}
use lib.Ieee.Fits.{and_i}
use lib.ListN.{length, get_or, drop, get_or-eq_default}
use lib.Seq.{get_or-take, get_or-drop}
use Rattle.refusals.specs.Numbers.{wrong_length, out_of_range}
use Rattle.refusals.specs.Checks.{Check, always, first_of}
use Rattle.refusals.proofs.Tables.{met, met-given, is_true, of-true, zero-none}
use Rattle.refusals.proofs.Rows.{joined-passed}
use Rattle.region.specs.declared.Region.{Region}
use Rattle.region.specs.Measures.{picture_fits}
use Rattle.planes.specs.Samples.{bits}
use Rattle.planes.specs.Band.{planes_fit}
use Rattle.cut_file.specs.declared.CutTable.{CutTable}
use Rattle.cut_file.specs.File.{grey_marker, sample_count, entry_at, body_at, file_length, file_of}
use Rattle.cut_file.specs.Read.{starts_with, planes_in, count_in, region_in, samples_at, samples_in, bad_count, file_checks, region_checks, read_checks}
use Rattle.cut_file.specs.Write.{rectangle, rectangles_fit, samples_before, table_checks, write_checks}
use Rattle.cut_file.proofs.Laws.{body-ends, count-range, file-numbered, FileAccepted, file-accepted}
use Rattle.cut_file.proofs.FileLaws.{body-at, body_same, before_same, body_back, length-read, file-same}
use Rattle.cut_file.proofs.Written.{WriteAccepted, planes-in, count-in, region-in, body-in, written-accepted}
use Rattle.cut_file.proofs.Contents.{file-again}
use Rattle.cut_read.specs.declared.CountAnswer.{CountAnswer}
use Rattle.cut_read.specs.declared.Cut.{Cut}
use Rattle.cut_read.specs.Outcome.{ReadOutcome, cut_in, count_outcome, cut_answer, read_outcome}
use Rattle.cut_write.specs.Outcome.{WriteOutcome, write_outcome}
use Rattle.cut_write.proofs.Tables.{each_fits}
use Rattle.cut_round.specs.RoundTrip.{EachBelow, samples_of, read_back, RoundTrip, WrittenRead, WrittenCount, SamplesKept, all_samples_in, OneFile, WrittenAgain}

-- ---- bounds of elements, past the end too

each-any : (m : ℕ) (s : List ℕ) → 0 < m → EachBelow m s → (i : ℕ) → get_or s i 0 < m
each-any m s p h i = go (ltb i (length s)) refl
  where
    go : (b : Bool) → ltb i (length s) ≡ b → get_or s i 0 < m
    go true e = h i (ltb-true i (length s) e)
    go false e = rw (get_or-eq_default s 0 (ltb-false i (length s) e)) p

-- ---- what writing accepts

accepted : (planes : ℕ) (t : CutTable) (samples : List ℕ) (len : ℕ) → first_of (write_checks planes t (length samples) len) ≡ 0 → WriteAccepted planes (rectangle t) t.count samples
unfolding write_checks table_checks
accepted planes t samples len z =
    let p = zero-none (write_checks planes t (length samples) len) tt z in
    let fits : planes_fit planes ≡ true = is_true (planes_fit planes) (met (planes_fit planes) p.1.1.1.1.1.1.0) in
    let good : T (planes_fit planes) = of-true (planes_fit planes) fits in
    let all = eqb (length samples) (samples_before planes (rectangle t) t.count) in
    let c = count-range t.count p.0 in
    record {
      planes-are = fits;
      count-pos = c.0;
      count-le = c.1;
      fit = λ i h. each_fits (rectangle t) t.count i (met (rectangles_fit (rectangle t) t.count) p.1.0) h;
      all = eqb→eq (length samples) (samples_before planes (rectangle t) t.count) (met-given (planes_fit planes) all p.1.1.1.1.0 good);
      short = ltb-false 16777216 (file_length planes (rectangle t) t.count) (rw fits at p.1.1.1.0);
    }

-- ---- reading

-- an accepted file, a rectangle of it and a slice of its length
read-passes : (s : List ℕ) (k len : ℕ) → first_of (file_checks s) ≡ 0 → k < count_in s → len ≡ sample_count (planes_in s) (region_in s k) → first_of (read_checks s k len) ≡ 0
unfolding read_checks region_checks
read-passes s k len z h e =
    let x : List Check = always out_of_range (leb (count_in s) k) ∷ [] in
    let y : List Check = always wrong_length (not (eqb len (sample_count (planes_in s) (region_in s k)))) ∷ [] in
    ap first_of (append_assoc (file_checks s) x y)
    ∙ joined-passed (file_checks s) (x ++ y) (file-numbered s) z
    ∙ rw (lt-leb (count_in s) k h, eq-eqb len (sample_count (planes_in s) (region_in s k)) e)

read_is : (s : List ℕ) (k : ℕ) (slice : List ℕ) (c : Cut) (xs : List ℕ) → first_of (read_checks s k (length slice)) ≡ 0 → cut_in s k ≡ c → samples_in s k ≡ xs
    → read_outcome s k slice ≡ record { answer = record { number = 0; region = c.region; planes = c.planes }; samples = xs }
unfolding read_outcome cut_answer
read_is s k slice c xs z e f =
    ap {B = ReadOutcome} (λ (n : ℕ). record { answer = cut_answer n s k; samples = cond (eqb n 0) (samples_in s k) slice }) z
    ∙ (λ j. record { answer = record { number = 0; region = (e j).region; planes = (e j).planes }; samples = f j })

-- ---- the theorem

module _ (planes : ℕ) (t : CutTable) (samples : List ℕ) (b : EachBelow 4294967296 samples) (a : WriteAccepted planes (rectangle t) t.count samples) where
  -- rectangle k is below the count
  module _ (k : ℕ) (h : k < t.count) where
    room : samples_before planes (rectangle t) k + sample_count planes (rectangle t k) ≤ length samples
    room =
        omega (arith, a.all, body-ends planes (rectangle t) t.count k h, body-at planes (rectangle t) t.count k, body-at planes (rectangle t) t.count t.count)

    -- the file, and the rectangle that is read from it
    written : List ℕ
    written = file_of planes (rectangle t) t.count samples

    cut : Cut
    cut = record { region = rectangle t k; planes = planes }

    cut-is : cut_in written k ≡ cut
    unfolding written cut
    cut-is = λ j. record { region = region-in planes (rectangle t) t.count samples a k h j; planes = planes-in planes (rectangle t) t.count samples a j }

    samples-are : samples_in written k ≡ samples_of planes (rectangle t) k samples
    unfolding written cut
    samples-are =
        ap (λ (at : ℕ). samples_at written at (sample_count (planes_in written) (region_in written k))) (body-in planes (rectangle t) t.count samples a k (omega arith) ∙ body-at planes (rectangle t) t.count k)
        ∙ ap (λ (c : Cut). samples_at written (entry_at t.count + 4 * samples_before planes (rectangle t) k) (sample_count c.planes c.region)) cut-is
        ∙ body_back planes (rectangle t) t.count samples (samples_before planes (rectangle t) k) (sample_count planes (rectangle t k)) (each-any 4294967296 samples (omega arith) b) room

    read_back_lem : (slice : List ℕ) → length slice ≡ sample_count planes (rectangle t k) → read_outcome (file_of planes (rectangle t) t.count samples) k slice ≡ read_back planes t k samples
    unfolding written cut
    read_back_lem slice l =
        read_is written k slice cut (samples_of planes (rectangle t) k samples)
        (read-passes written k (length slice) (written-accepted planes (rectangle t) t.count samples a) (rw (count-in planes (rectangle t) t.count samples a) h) (l ∙ ap (λ (c : Cut). sample_count c.planes c.region) (sym cut-is)))
        cut-is
        samples-are

pub round_trip : RoundTrip
round_trip planes t samples file b z k h slice l = read_back_lem planes t samples b (accepted planes t samples (length file) z) k h slice l

-- a call that writes leaves the file if it is accepted
writes : (planes : ℕ) (t : CutTable) (samples file : List ℕ) → first_of (write_checks planes t (length samples) (length file)) ≡ 0
    → write_outcome t planes samples file ≡ record { number = 0; file = file_of planes (rectangle t) t.count samples }
unfolding write_outcome
writes planes t samples file z =
    ap {B = WriteOutcome} (λ (n : ℕ). record { number = n; file = cond (eqb n 0) (file_of planes (rectangle t) t.count samples) file }) z

number_is : (planes : ℕ) (t : CutTable) (samples file : List ℕ) → (write_outcome t planes samples file).number ≡ first_of (write_checks planes t (length samples) (length file))
unfolding write_outcome
number_is planes t samples file = refl

pub written_read : WrittenRead
written_read planes t samples file b z k h slice l =
    let e : first_of (write_checks planes t (length samples) (length file)) ≡ 0 = sym (number_is planes t samples file) ∙ z in
    rw (writes planes t samples file e) (round_trip planes t samples file b e k h slice l)

count-is : (s : List ℕ) (n : ℕ) → first_of (file_checks s) ≡ 0 → count_in s ≡ n → count_outcome s ≡ record { number = 0; count = n }
unfolding count_outcome
count-is s n z e = ap {B = CountAnswer} (λ (k : ℕ). record { number = k; count = cond (eqb k 0) (count_in s) 0 }) z ∙ (λ j. record { number = 0; count = e j })

pub written_count : WrittenCount
written_count planes t samples file z =
    let e : first_of (write_checks planes t (length samples) (length file)) ≡ 0 = sym (number_is planes t samples file) ∙ z in
    let a = accepted planes t samples (length file) e in
    rw (writes planes t samples file e) (count-is (file_of planes (rectangle t) t.count samples) t.count (written-accepted planes (rectangle t) t.count samples a) (count-in planes (rectangle t) t.count samples a))

pub samples-kept : SamplesKept
samples-kept planes t samples file b z k h slice l j m =
    ap bits
    (ap (λ (o : ReadOutcome). get_or o.samples j 0) (written_read planes t samples file b z k h slice l)
    ∙ get_or-take (sample_count planes (rectangle t k)) (drop (samples_before planes (rectangle t) k) samples) j 0 m
    ∙ get_or-drop (samples_before planes (rectangle t) k) samples j 0)

-- ---- one file for the contents

pub one-file : OneFile
one-file s b z = file-again s (file-accepted s z) (each-any 256 s (omega arith) b)

fits_all : (rs : ℕ → Region) (n : ℕ) → ((i : ℕ) → i < n → T (picture_fits (rs i))) → T (rectangles_fit rs n)
unfolding rectangles_fit
fits_all rs zero f = tt
fits_all rs (suc n) f = and_i (rectangles_fit rs n) (picture_fits (rs n)) (fits_all rs n (λ i l. f i (omega arith))) (f n (omega arith))

is-good : (n : ℕ) → 1 ≤ n → n ≤ 64 → bad_count n ≡ false
is-good n h l = rw (ne_eqb n 0 (λ e. omega arith), le-ltb 64 n l)

-- the checks of a call that writes, where all of them pass
write-passes : (planes : ℕ) (t : CutTable) (samples : List ℕ) (len : ℕ) → WriteAccepted planes (rectangle t) t.count samples → len ≡ file_length planes (rectangle t) t.count
    → first_of (write_checks planes t (length samples) len) ≡ 0
unfolding write_checks table_checks
write-passes planes t samples len a e =
    rw (
      le-ltb 16777216 len (omega (arith, e, a.short)),
      a.planes-are,
      is-good t.count a.count-pos a.count-le,
      is_true (rectangles_fit (rectangle t) t.count) (fits_all (rectangle t) t.count a.fit),
      le-ltb 16777216 (file_length planes (rectangle t) t.count) a.short,
      eq-eqb (length samples) (samples_before planes (rectangle t) t.count) a.all,
      eq-eqb len (file_length planes (rectangle t) t.count) e,
    )

-- a file has one plane or three
planes-fit : (s : List ℕ) → planes_fit (planes_in s) ≡ true
planes-fit s = go (starts_with grey_marker s)
  where
    go : (b : Bool) → planes_fit (cond b 1 3) ≡ true
    go true = refl
    go false = refl

pub written-again : WrittenAgain
written-again s b z t c r file l =
    let n : ℕ = t.count in
    let same : (i : ℕ) → i < n → rectangle t i ≡ region_in s i = λ i h. r i (omega arith) in
    let f : FileAccepted s = file-accepted s z in
    let long : file_length (planes_in s) (rectangle t) n ≡ length s
    = body_same (planes_in s) (rectangle t) (region_in s) n n same ∙ ap (λ (k : ℕ). body_at (planes_in s) (region_in s) k k) c ∙ sym f.end_is in
    let a : WriteAccepted (planes_in s) (rectangle t) n (all_samples_in s) = record {
      planes-are = planes-fit s;
      count-pos = omega (arith, f.count-pos);
      count-le = omega (arith, f.count-le);
      fit = λ i h. rw (same i h) (f.entry i (omega arith)).region-fits;
      all = length-read s (entry_at (count_in s)) (samples_before (planes_in s) (region_in s) (count_in s)) ∙ ap (samples_before (planes_in s) (region_in s)) (sym c) ∙ sym (before_same (planes_in s) (rectangle t) (region_in s) n same);
      short = omega (arith, f.length-le);
    } in
    writes (planes_in s) t (all_samples_in s) file (write-passes (planes_in s) t (all_samples_in s) (length file) a (l ∙ sym long))
    ∙ ap {B = WriteOutcome} (λ (l : List ℕ). record { number = 0; file = l })
    (file-same (planes_in s) (rectangle t) (region_in s) n (all_samples_in s) same ∙ ap (λ (k : ℕ). file_of (planes_in s) (region_in s) k (all_samples_in s)) c ∙ one-file s b z)
