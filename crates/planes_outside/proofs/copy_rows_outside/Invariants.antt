-- The invariant: i rows of n are written.
use Rattle.std.proofs.Common.{◌≡◌, length}
use Rattle.planes.specs.Rect.{rows_fill}
use Rattle.planes.specs.Outside.{rows_outside}
use Rattle.planes_outside.proofs.copy_rows_outside.Given as goal

abbrev pub invariant-loop-i : goal.invariant-loop-i
invariant-loop-i l =
    (length l.dst ≡ length l.initial.dst)
    × (l.dst ≡ rows_fill l.initial.dst l.at l.l.image.width l.l.image.width l.i (rows_outside l.l l.from l.at l.l.image.width l.src l.initial.dst))
