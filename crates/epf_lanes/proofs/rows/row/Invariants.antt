-- `epf_lanes::rows::row` meets its contract. The invariant: b vectors are written in each plane. Assumes nothing.
use mathlib.Core.Path.{◌≡◌}
use Prim.Native.Nat.{◌+◌, ◌*◌, min}
use Rattle.planes.specs.Rect.{planes_fill}
use Rattle.epf_lanes.specs.Lanes.{row_of}
use Rattle.epf_lanes.proofs.rows.row.Given as goal

abbrev pub invariant-loop-b : goal.invariant-loop-b
invariant-loop-b g l =
    l.dst
    ≡ planes_fill l.l.image.width l.l.image.height (l.l.left + l.rect.x) (min (4 * l.b) l.rect.cols) (l.l.top + l.rect.y + l.r) 1 (row_of g.row.STEP l.fields l.slopes l.src l.v l.first l.r) l.initial.dst g.row.N
