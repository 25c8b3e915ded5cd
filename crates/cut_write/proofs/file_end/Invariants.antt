-- `cut_write::file_end` meets its contract: after i turns the first i rectangles are within the limits, and `end` is the end of their bodies. Assumes nothing.
use mathlib.Core.Path.{◌≡◌}
use Prim.Native.Nat.{◌+◌, ◌*◌, ◌≤◌}
use lib.Dec.{T}
use Rattle.cut_file.specs.File.{body_at}
use Rattle.cut_file.specs.Write.{rectangle, rectangles_fit}
use Rattle.cut_write.proofs.file_end.Given as goal

abbrev pub invariant-loop-r : goal.invariant-loop-r
invariant-loop-r l = (l.end ≡ body_at l.fn.planes (rectangle l.fn.table) l.fn.table.count l.r-index)
    × T (rectangles_fit (rectangle l.fn.table) l.r-index)
    × (l.end ≤ 1030 + 288230376084602880 * l.r-index)
