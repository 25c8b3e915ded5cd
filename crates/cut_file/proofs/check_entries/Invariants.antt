-- `cut_file::check_entries` meets its contract. The invariant: the entries before i have the number 0, `end` is where body i starts. Assumes nothing.
use mathlib.Core.Path.{◌≡◌}
use mathlib.Core.List.{List}
use Prim.Native.Nat.{ℕ, ◌+◌, ◌-◌, ◌*◌, ◌≤◌}
use Rattle.refusals.specs.Checks.{first_of}
use Rattle.cut_file.specs.File.{body_at}
use Rattle.cut_file.specs.Read.{planes_in, count_in, region_in, entry_checks}
use Rattle.cut_file.proofs.check_entries.Given as goal

pub record Checked (s : List ℕ) (count i end : ℕ) : Type 0 where
  pub i-le : i ≤ count
  pub end_is : end ≡ body_at (planes_in s) (region_in s) (count_in s) i
  pub end-le : end ≤ 1030 + i * 201326592
  pub number_is : first_of (entry_checks s 0 count) ≡ first_of (entry_checks s i (count - i))

abbrev pub invariant-loop-i : goal.invariant-loop-i
invariant-loop-i l = Checked l.file l.count l.i l.end
