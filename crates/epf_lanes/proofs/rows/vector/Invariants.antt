-- `epf_lanes::rows::vector` meets its contract. The invariant: the lanes of c planes are written. Assumes nothing.
use mathlib.Core.Path.{◌≡◌}
use Prim.Native.Nat.{ℕ, ◌+◌, ◌-◌, ◌≤◌, min}
use Rattle.planes.specs.Rect.{planes_fill}
use Rattle.epf_lanes.specs.Lanes.{row_of}
use Rattle.epf_lanes.proofs.rows.vector.Given as goal

abbrev pub invariant-loop-c : goal.invariant-loop-c
invariant-loop-c g l =
    (l.c ≤ g.row.N) × (l.dst
    ≡ planes_fill l.fn.l.image.width l.fn.l.image.height (l.fn.l.left + l.fn.rect.x + l.i) (min (l.fn.rect.cols - l.i) 4) (l.fn.l.top + l.fn.rect.y + l.r) 1
    (λ (c : ℕ) (x : ℕ) (y : ℕ). row_of g.row.STEP l.fields l.slopes l.src l.fn.v l.first l.r c (l.i + x) y) l.initial.dst l.c)
