-- `run_result::copy_planes` meets its contract. The invariant: c planes of n are written. Assumes nothing.
use mathlib.Core.Path.{◌≡◌}
use lib.ListN.{length}
use Rattle.planes.specs.Rect.{planes_fill}
use Rattle.planes.specs.Band.{inner}
use Rattle.run_result.proofs.copy_planes.Given as goal

abbrev pub invariant-loop-c : goal.invariant-loop-c
invariant-loop-c l = (length l.out ≡ length l.initial.out) × (l.out ≡ planes_fill l.l.width l.l.height 0 l.l.width 0 l.l.height (inner l.l l.src) l.initial.out l.c)
