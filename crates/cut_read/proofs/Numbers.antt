-- The number that reading a cut file answers, and the outcomes that belong to it. Assumes nothing.
use mathlib.Core.Path.{◌≡◌, sym, ◌∙◌}
use mathlib.Core.Bool.{not}
use mathlib.Core.List.{List, [], ◌∷◌, ◌++◌}
use Prim.Native.Nat.{ℕ, ◌≤◌, ◌<◌}
use borrow.Author.Tests.{leb-false, le-leb, lt-leb, eq-eqb, ne_eqb}
use lib.Dec.{T, eqb, leb, ltb}
use lib.Ieee.Fits.{and_l, and_r, and_i}
use lib.ListN.{length}
use Rattle.refusals.specs.Numbers.{wrong_length, out_of_range}
use Rattle.std.specs.Prelude.{Result, Ok, Err}
use Rattle.refusals.specs.Checks.{Check, always, first_of}
use Rattle.refusals.specs.Refusals.{refusal_number as number, IsOutcome}
use Rattle.refusals.specs.declared.Refusal.{Refusal}
use Rattle.refusals.proofs.Outcomes.{number-nonzero}
use Rattle.refusals.proofs.Tables.{numbered, zero-none}
use Rattle.refusals.proofs.Rows.{joined-none, joined-passed, joined-refused}
use Rattle.cut_file.specs.File.{sample_count}
use Rattle.cut_file.specs.Read.{planes_in, count_in, region_in, samples_in, file_checks, region_checks, read_checks}
use Rattle.cut_file.proofs.Laws.{file-numbered}
use Rattle.cut_read.specs.declared.Cut.{Cut}
use Rattle.cut_read.specs.Outcome.{count_answer_of, cut_in, cut_answer_of, count_outcome, cut_answer, region_outcome, read_outcome, ReadOutcome}

-- ---- numbers

module _ (s : List ℕ) (k : ℕ) where
  abbrev past : List Check
  past = always out_of_range (leb (count_in s) k) ∷ []

  -- a file that is refused
  pub file-refused : (first_of (file_checks s) ≡ 0 → ⊥) → first_of (region_checks s k) ≡ first_of (file_checks s)
  unfolding region_checks
  file-refused h = joined-refused (file_checks s) past (file-numbered s) h

  -- an accepted file without rectangle k, and with it
  pub rectangle-missing : first_of (file_checks s) ≡ 0 → count_in s ≤ k → first_of (region_checks s k) ≡ out_of_range
  unfolding region_checks
  rectangle-missing e h = joined-passed (file_checks s) past (file-numbered s) e ∙ rw (le-leb (count_in s) k h)

  pub rectangle-there : first_of (file_checks s) ≡ 0 → k < count_in s → first_of (region_checks s k) ≡ 0
  unfolding region_checks
  rectangle-there e h = joined-passed (file_checks s) past (file-numbered s) e ∙ rw (lt-leb (count_in s) k h)

  -- the number 0: the file is accepted and has rectangle k
  pub accepted-file : first_of (region_checks s k) ≡ 0 → first_of (file_checks s) ≡ 0
  unfolding region_checks
  accepted-file e = joined-none (file_checks s) past (file-numbered s) e

  pub accepted-rectangle : first_of (region_checks s k) ≡ 0 → k < count_in s
  unfolding region_checks
  accepted-rectangle e = leb-false (count_in s) k (zero-none past tt last).0
    where
      last : first_of past ≡ 0
      last = sym (joined-passed (file_checks s) past (file-numbered s) (accepted-file e)) ∙ e

  numbered-joined : (xs ys : List Check) → T (numbered xs) → T (numbered ys) → T (numbered (xs ++ ys))
  numbered-joined [] ys t u = u
  numbered-joined (c ∷ xs) ys t u =
      and_i (ltb 0 c.number) (numbered (xs ++ ys)) (and_l (ltb 0 c.number) (numbered xs) t)
      (numbered-joined xs ys (and_r (ltb 0 c.number) (numbered xs) t) u)

  region-numbered : T (numbered (region_checks s k))
  unfolding region_checks
  region-numbered = numbered-joined (file_checks s) past (file-numbered s) tt

  module _ (len : ℕ) where
    abbrev unlike : List Check
    unlike = always wrong_length (not (eqb len (sample_count (planes_in s) (region_in s k)))) ∷ []

    pub region-refused : (first_of (region_checks s k) ≡ 0 → ⊥) → first_of (read_checks s k len) ≡ first_of (region_checks s k)
    unfolding read_checks
    region-refused h = joined-refused (region_checks s k) unlike region-numbered h

    pub length-unlike : first_of (region_checks s k) ≡ 0 → (len ≡ sample_count (planes_in s) (region_in s k) → ⊥) → first_of (read_checks s k len) ≡ wrong_length
    unfolding read_checks
    length-unlike e h = joined-passed (region_checks s k) unlike region-numbered e ∙ rw (ne_eqb len (sample_count (planes_in s) (region_in s k)) h)

    pub length-alike : first_of (region_checks s k) ≡ 0 → len ≡ sample_count (planes_in s) (region_in s k) → first_of (read_checks s k len) ≡ 0
    unfolding read_checks
    length-alike e h = joined-passed (region_checks s k) unlike region-numbered e ∙ rw (eq-eqb len (sample_count (planes_in s) (region_in s k)) h)

-- ---- outcomes

module _ (s : List ℕ) (k : ℕ) (slice : List ℕ) where
  pub read-refused : (n : ℕ) → first_of (read_checks s k (length slice)) ≡ n → (n ≡ 0 → ⊥)
      → ◌≡◌ {A = ReadOutcome} (read_outcome s k slice) (record { answer = cut_answer n s k; samples = slice })
  unfolding read_outcome
  read-refused n e h = rw (e, ne_eqb n 0 h)

  pub read-accepted : first_of (read_checks s k (length slice)) ≡ 0
      → ◌≡◌ {A = ReadOutcome} (read_outcome s k slice) (record { answer = cut_answer 0 s k; samples = samples_in s k })
  unfolding read_outcome
  read-accepted e = rw e

-- ---- the answers at the C boundary

pub count_answer : (s : List ℕ) (r : Result ℕ Refusal) → IsOutcome r (first_of (file_checks s)) (count_in s) → count_answer_of r ≡ count_outcome s
unfolding count_outcome
count_answer s (Ok n) (e, v) = rw (sym e) (λ j. record { number = 0; count = v j })
count_answer s (Err x) (e, v) = rw (sym e, ne_eqb (number x) 0 (number-nonzero x))

cut-answer : (s : List ℕ) (k n : ℕ) (r : Result Cut Refusal) → IsOutcome r n (cut_in s k) → cut_answer_of r ≡ cut_answer n s k
unfolding cut_answer
cut-answer s k n (Ok q) (e, v) = rw (sym e) (λ j. record { number = 0; region = (v j).region; planes = (v j).planes })
cut-answer s k n (Err x) (e, v) = rw (sym e, ne_eqb (number x) 0 (number-nonzero x))

pub region_answer : (s : List ℕ) (k : ℕ) (r : Result Cut Refusal) → IsOutcome r (first_of (region_checks s k)) (cut_in s k) → cut_answer_of r ≡ region_outcome s k
unfolding region_outcome
region_answer s k r h = cut-answer s k (first_of (region_checks s k)) r h

pub read_answer : (s : List ℕ) (k : ℕ) (slice : List ℕ) (r : Result Cut Refusal) (xs : List ℕ) → IsOutcome r (first_of (read_checks s k (length slice))) (cut_in s k)
    → xs ≡ (read_outcome s k slice).samples → ◌≡◌ {A = ReadOutcome} (record { answer = cut_answer_of r; samples = xs }) (read_outcome s k slice)
unfolding read_outcome
read_answer s k slice r xs h e = λ j. record { answer = cut-answer s k (first_of (read_checks s k (length slice))) r h j; samples = e j }
