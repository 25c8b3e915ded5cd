-- The number of one entry of a cut file's table, for the loop over the entries.
use Rattle.std.specs.Prelude.{not, List, [], ◌∷◌, ℕ, ◌+◌, ltb, length}
use Rattle.refusals.specs.Numbers.{bad_entry, wrong_end}
use Rattle.refusals.specs.Checks.{always, first_of}
use Rattle.cut_file.specs.File.{entry_at}
use Rattle.cut_file.specs.Read.{entry_fits}

abbrev pub entry_number : List ℕ → ℕ → ℕ
entry_number s i = first_of (always wrong_end (ltb (length s) (entry_at (i + 1))) ∷ always bad_entry (not (entry_fits s i)) ∷ [])
