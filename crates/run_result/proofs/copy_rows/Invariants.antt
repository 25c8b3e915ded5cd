-- `run_result::copy_rows` meets its contract. The invariant: y rows are written. Assumes nothing.
use mathlib.Core.Path.{◌≡◌}
use lib.ListN.{length}
use Rattle.planes.specs.Rect.{rows_fill}
use Rattle.run_result.specs.Part.{rows_of}
use Rattle.run_result.proofs.copy_rows.Given as goal

abbrev pub invariant-loop-y : goal.invariant-loop-y
invariant-loop-y l = (length l.out ≡ length l.initial.out) × (l.out ≡ rows_fill l.initial.out l.at l.l.width l.l.width l.y (rows_of l.l l.from l.src))
