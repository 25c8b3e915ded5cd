-- `cut_write::put_table` meets its contract: after i turns the first i entries are stored. Assumes nothing.
use mathlib.Core.Path.{◌≡◌}
use lib.Seq.{sets}
use Rattle.cut_file.specs.File.{body_at, table_bytes}
use Rattle.cut_file.specs.Write.{rectangle}
use Rattle.cut_write.proofs.put_table.Given as goal

abbrev pub invariant-loop-i : goal.invariant-loop-i
invariant-loop-i l = (l.end ≡ body_at l.fn.planes (rectangle l.fn.table) l.fn.table.count l.i)
    × (l.file ≡ sets l.initial.file 6 (table_bytes l.fn.planes (rectangle l.fn.table) l.fn.table.count l.i))
