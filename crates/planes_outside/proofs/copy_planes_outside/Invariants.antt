-- `planes_outside::copy_planes_outside` meets its contract. The invariant: c planes of n are written. Assumes nothing.
use mathlib.Core.Path.{◌≡◌}
use lib.ListN.{length}
use Rattle.planes.specs.Rect.{planes_fill}
use Rattle.planes.specs.Outside.{planes_outside_of}
use Rattle.planes_outside.proofs.copy_planes_outside.Given as goal

abbrev pub invariant-loop-c : goal.invariant-loop-c
invariant-loop-c l = (length l.dst ≡ length l.initial.dst)
    × (l.dst ≡ planes_fill l.l.image.width l.l.image.height 0 l.l.image.width l.from l.rows (planes_outside_of l.l l.l.image.width l.l.image.height l.from l.src l.initial.dst) l.initial.dst l.c)
