-- Laws of cut files: where bodies start, the checks of one entry after another, and what holds in a file that is accepted. Assumes nothing.
use mathlib.Core.Path.{◌≡◌, refl, subst}
use mathlib.Core.Bool.{Bool, true, false, true≢false, cond, not, ◌&&◌, ◌||◌}
use mathlib.Core.List.{List}
use mathlib.Core.Logic.{⊎_elim}
use Prim.Native.Nat.{ℕ, zero, suc, ◌+◌, ◌*◌, ◌≤◌, ◌<◌}
use native.Mathlib.Nat.{eq-or-lt_of_le, mul-le-mul_left}
use native.Mathlib.Numerals.{add-one}
use native.Mathlib.Omega.{arith}
use borrow.Author.Tests.{ltb-false, eqb-true, eqb-false, not-false}
use lib.Dec.{T, eqb, leb, ltb, leb→le, eqb→eq}
use lib.Ieee.Fits.{and_l, and_r}
use lib.ListN.{length}
use Rattle.std.specs.Prelude.{Option, Some, None}
use Rattle.refusals.specs.Checks.{first_of}
use Rattle.refusals.proofs.Tables.{is_true, numbered, of-true, NoneApplies, zero-none}
use Rattle.refusals.proofs.Rows.{or_else}
use Rattle.region.specs.declared.Region.{Region}
use Rattle.region.specs.Measures.{bounds_fit, area_fits, picture_fits}
use Rattle.cut_file.specs.File.{grey_marker, max_file, max_rectangles, sample_count, entry_at, body_at}
use Rattle.cut_file.specs.Read.{starts_with, planes_in, count_in, offset_in, region_in, has_marker, bad_count, entry_fits, entry_checks, file_checks}
use Rattle.cut_file.specs.Entry.{entry_number}

-- ---- samples

-- a rectangle within the limits has at most 16,777,216 samples per plane
pub area-le : (r : Region) → T (picture_fits r) → r.height * r.width ≤ 16777216
unfolding picture_fits
area-le r t =
    let a = and_r (bounds_fit r) (area_fits r.width r.height) t in
    let h = and_r (leb 1 r.width) (leb 1 r.height && leb (r.width * r.height) 16777216) a in
    omega (arith, leb→le (r.width * r.height) 16777216 (and_r (leb 1 r.height) (leb (r.width * r.height) 16777216) h))

-- a count of the samples of a rectangle within the limits
pub record Sampled (planes : ℕ) (r : Region) (n : ℕ) : Type 0 where
  pub are : n ≡ sample_count planes r
  pub le : n ≤ planes * 16777216

pub sampled : (planes : ℕ) (r : Region) (n : ℕ) → T (picture_fits r) → n ≡ sample_count planes r → Sampled planes r n
sampled planes r n t e = record { are = e; le = rw e (mul-le-mul_left planes (area-le r t)) }

-- the answer of `cut_file::sample_count`
abbrev pub counted : ℕ → Region → Option ℕ
counted planes r = cond (picture_fits r) (Some (sample_count planes r)) None

-- what there being a count says, and there being none
module _ (planes : ℕ) (r : Region) (o : Option ℕ) (is : o ≡ counted planes r) where
  pub count-some : (n : ℕ) → o ≡ Some n → T (picture_fits r) × Sampled planes r n
  count-some n m = go (picture_fits r) refl
    where
      go : (b : Bool) → picture_fits r ≡ b → T (picture_fits r) × Sampled planes r n
      go true e = let f : o ≡ Some (sample_count planes r) = rw e at is in let t = of-true (picture_fits r) e in (t, sampled planes r n t cc)
      go false e = let f : ◌≡◌ {A = Option ℕ} o None = rw e at is in cc

  pub count-none : ◌≡◌ {A = Option ℕ} o None → picture_fits r ≡ false
  count-none m = go (picture_fits r) refl
    where
      go : (b : Bool) → picture_fits r ≡ b → picture_fits r ≡ false
      go true e = let f : o ≡ Some (sample_count planes r) = rw e at is in cc
      go false e = e

  pub count-fits : T (picture_fits r) → o ≡ Some (sample_count planes r)
  count-fits t = let e = is_true (picture_fits r) t in rw e at is

-- ---- planes

-- a file has at most three planes
pub planes-few : (s : List ℕ) → planes_in s ≤ 3
planes-few s = go (starts_with grey_marker s)
  where
    go : (b : Bool) → ◌≤◌ (cond b 1 3) 3
    go true = omega arith
    go false = omega arith

-- ---- where bodies start

-- the next body starts where this one ends
pub body-next : (planes : ℕ) (rectangles : ℕ → Region) (n i : ℕ) → body_at planes rectangles n (i + 1) ≡ body_at planes rectangles n i + 4 * sample_count planes (rectangles i)
unfolding body_at
body-next planes rectangles n i = rw (add-one i)

pub body-grows : (planes : ℕ) (rectangles : ℕ → Region) (n i j : ℕ) → i ≤ j → body_at planes rectangles n i ≤ body_at planes rectangles n j
unfolding body_at
body-grows planes rectangles n i zero h = let z : i ≡ 0 = omega arith in rw z (omega arith)
body-grows planes rectangles n i (suc j) h =
    ⊎_elim
    (λ (e : i ≡ suc j). rw e (omega arith))
    (λ (l : i < suc j). omega (arith, body-grows planes rectangles n i j (omega arith)))
    (eq-or-lt_of_le h)

-- the body of rectangle k of n ends at or before the end of the last one
pub body-ends : (planes : ℕ) (rectangles : ℕ → Region) (n k : ℕ) → k < n
    → body_at planes rectangles n k + 4 * sample_count planes (rectangles k) ≤ body_at planes rectangles n n
body-ends planes rectangles n k h = omega (arith, body-next planes rectangles n k, body-grows planes rectangles n (k + 1) n (omega arith))

-- ---- the checks of the entries, one after another

-- two checks and then others: the number of the two or, if that is 0, of the others
two-first : (a b : Bool) (rest : ℕ) → ◌≡◌ {A = ℕ} (cond a 14 (cond b 13 rest)) (or_else (cond a 14 (cond b 13 0)) rest)
two-first true b rest = refl
two-first false true rest = refl
two-first false false rest = refl

two_none : (a b : Bool) → ◌≡◌ {A = ℕ} (cond a 14 (cond (not b) 13 0)) 0 → (a ≡ false) × (b ≡ true)
two_none true b e = absurd (omega arith)
two_none false true e = (refl, refl)
two_none false false e = absurd (omega arith)

pub entries-first : (s : List ℕ) (i n : ℕ) → first_of (entry_checks s i (suc n)) ≡ or_else (entry_number s i) (first_of (entry_checks s (i + 1) n))
unfolding entry_checks
entries-first s i n = two-first (ltb (length s) (entry_at (i + 1))) (not (entry_fits s i)) (first_of (entry_checks s (i + 1) n))

-- an entry with the number 0
pub record EntryAccepted (s : List ℕ) (i : ℕ) : Type 0 where
  pub ends-le : entry_at (i + 1) ≤ length s
  pub region-fits : T (picture_fits (region_in s i))
  pub offset-is : offset_in s i ≡ body_at (planes_in s) (region_in s) (count_in s) i

entry-parts : (s : List ℕ) (i : ℕ) → ltb (length s) (entry_at (i + 1)) ≡ false → entry_fits s i ≡ true → EntryAccepted s i
entry-parts s i e f =
    let t = of-true (entry_fits s i) f in
    let offset = eqb (offset_in s i) (body_at (planes_in s) (region_in s) (count_in s) i) in
    record {
      ends-le = ltb-false (length s) (entry_at (i + 1)) e;
      region-fits = and_l (picture_fits (region_in s i)) offset t;
      offset-is = eqb→eq (offset_in s i) (body_at (planes_in s) (region_in s) (count_in s) i) (and_r (picture_fits (region_in s i)) offset t);
    }

pub entry-accepted : (s : List ℕ) (i : ℕ) → entry_number s i ≡ 0 → EntryAccepted s i
entry-accepted s i e =
    let n = two_none (ltb (length s) (entry_at (i + 1))) (entry_fits s i) e in
    entry-parts s i n.0 n.1

-- ---- a file with the number 0

above_zero : (n : ℕ) → (n ≡ 0 → ⊥) → 1 ≤ n
above_zero zero z = absurd (z refl)
above_zero (suc n) z = omega arith

pub count-range : (n : ℕ) → bad_count n ≡ false → (1 ≤ n) × (n ≤ 64)
count-range n e = go (eqb n 0) refl e
  where
    go : (b : Bool) → eqb n 0 ≡ b → (b || ltb max_rectangles n) ≡ false → (1 ≤ n) × (n ≤ 64)
    go true p q = absurd (true≢false q)
    go false p q = let z = eqb-false n 0 p in (above_zero n z, ltb-false max_rectangles n q)

-- every check has a number above 0
entries-numbered : (s : List ℕ) (i n : ℕ) → T (numbered (entry_checks s i n))
unfolding entry_checks
entries-numbered s i zero = tt
entries-numbered s i (suc n) = entries-numbered s (i + 1) n

pub file-numbered : (s : List ℕ) → T (numbered (file_checks s))
unfolding file_checks
file-numbered s = entries-numbered s 0 (count_in s)

-- n entries from entry i on, and the end of the file
record EntriesAccepted (s : List ℕ) (i n : ℕ) : Type 0 where
  each : (j : ℕ) → i ≤ j → j < i + n → EntryAccepted s j
  end_is : length s ≡ body_at (planes_in s) (region_in s) (count_in s) (i + n)

entries-accepted : (s : List ℕ) (i n : ℕ) → NoneApplies (entry_checks s i n) → EntriesAccepted s i n
unfolding entry_checks
entries-accepted s i zero none =
    let z : i + 0 ≡ i = omega arith in
    record {
      each = λ j l h. absurd (omega arith);
      end_is = rw z (eqb-true (length s) (body_at (planes_in s) (region_in s) (count_in s) i) (not-false (eqb (length s) (body_at (planes_in s) (region_in s) (count_in s) i)) none.0));
    }
entries-accepted s i (suc n) none =
    let rest = entries-accepted s (i + 1) n none.1.1 in
    let here = entry-parts s i none.0 (not-false (entry_fits s i) none.1.0) in
    let z : i + 1 + n ≡ i + suc n = omega arith in
    record {
      each =
          λ j l h.
          ⊎_elim
          (λ (e : i ≡ j). subst (λ (k : ℕ). EntryAccepted s k) e here)
          (λ (m : i < j). rest.each j (omega arith) (omega arith))
          (eq-or-lt_of_le l);
      end_is = rw z at rest.end_is;
    }

pub record FileAccepted (s : List ℕ) : Type 0 where
  pub length-le : length s ≤ 16777216
  pub head-le : 6 ≤ length s
  pub marker-is : has_marker s ≡ true
  pub count-pos : 1 ≤ count_in s
  pub count-le : count_in s ≤ 64
  pub entry : (i : ℕ) → i < count_in s → EntryAccepted s i
  pub end_is : length s ≡ body_at (planes_in s) (region_in s) (count_in s) (count_in s)

pub file-accepted : (s : List ℕ) → first_of (file_checks s) ≡ 0 → FileAccepted s
unfolding file_checks
file-accepted s e =
    let none = zero-none (file_checks s) (file-numbered s) e in
    let range = count-range (count_in s) none.1.1.1.1.0 in
    let entries = entries-accepted s 0 (count_in s) none.1.1.1.1.1 in
    let z : 0 + count_in s ≡ count_in s = omega arith in
    record {
      length-le = ltb-false max_file (length s) none.0;
      head-le = ltb-false (length s) 6 none.1.1.1.0;
      marker-is = not-false (has_marker s) none.1.1.0;
      count-pos = range.0;
      count-le = range.1;
      entry = λ i h. entries.each i (omega arith) (omega arith);
      end_is = rw z at entries.end_is;
    }

-- the body of each rectangle lies in the file
pub body-inside : (s : List ℕ) (k : ℕ) → FileAccepted s → k < count_in s → body_at (planes_in s) (region_in s) (count_in s) k + 4 * sample_count (planes_in s) (region_in s k) ≤ length s
body-inside s k a h = omega (arith, a.end_is, body-ends (planes_in s) (region_in s) (count_in s) k h)
