-- The invariant: c planes of n are written.
use Rattle.std.proofs.Common.{◌≡◌, ◌+◌, length, take}
use Rattle.planes.specs.Rect.{planes_fill}
use Rattle.gabor.specs.Pass.{pass_rows}
use Rattle.gabor.proofs.pass.gabor_planes.Given as goal

abbrev pub invariant-loop-c : goal.invariant-loop-c
invariant-loop-c l =
    (length l.dst ≡ length l.initial.dst)
    × (l.dst ≡ planes_fill l.l.image.width l.l.image.height l.l.left l.l.width (l.l.top + l.from) l.rows (pass_rows (take l.fn.n l.fn.weights) l.l l.src l.from) l.initial.dst l.c)
