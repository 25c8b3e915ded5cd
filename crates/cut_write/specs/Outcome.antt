-- What writing a cut file answers and leaves, for all tables and slices (Specification 16). Definitions only.
use Rattle.std.specs.Prelude.{cond, List, ℕ, eqb, length, Result, Ok, Err}
use Rattle.refusals.specs.Checks.{first_of}
use Rattle.refusals.specs.Refusals.{refusal_number}
use Rattle.refusals.specs.declared.Refusal.{Refusal}
use Rattle.cut_file.specs.declared.CutTable.{CutTable}
use Rattle.cut_file.specs.File.{file_length, file_of}
use Rattle.cut_file.specs.Write.{rectangle, length_checks, write_checks}
use Rattle.cut_write.specs.declared.LengthAnswer.{LengthAnswer}

-- the answer at the C boundary: a length, or 0 beside the number of a refusal
abbrev pub length_answer_of : Result ℕ Refusal → LengthAnswer
length_answer_of (Ok n) = record { number = 0; length = n }
length_answer_of (Err e) = record { number = refusal_number e; length = 0 }

-- the length of the file that a table needs with a number of planes
unfoldable pub length_outcome : CutTable → ℕ → LengthAnswer
length_outcome t planes =
    let n = first_of (length_checks planes t) in
    record { number = n; length = cond (eqb n 0) (file_length planes (rectangle t) t.count) 0 }

-- the number and the caller's slice for the file after it
pub record WriteOutcome : Type 0 where
  pub number : ℕ
  pub file : List ℕ

unfoldable pub write_outcome : CutTable → ℕ → List ℕ → List ℕ → WriteOutcome
write_outcome t planes samples file =
    let n = first_of (write_checks planes t (length samples) (length file)) in
    record { number = n; file = cond (eqb n 0) (file_of planes (rectangle t) t.count samples) file }
