-- `epf_lanes::rows::rows` meets its contract. The invariant: r rows are written in each plane. Assumes nothing.
use mathlib.Core.Path.{◌≡◌}
use Prim.Native.Nat.{◌+◌, ◌≤◌}
use Rattle.planes.specs.Rect.{planes_fill}
use Rattle.epf_lanes.specs.Lanes.{tile_of}
use Rattle.epf_lanes.proofs.rows.rows.Given as goal

abbrev pub invariant-loop-r : goal.invariant-loop-r
invariant-loop-r g l =
    (l.r ≤ l.rect.rows) × (l.dst ≡ planes_fill l.l.image.width l.l.image.height (l.l.left + l.rect.x) l.rect.cols (l.l.top + l.rect.y) l.r (tile_of g.row.STEP l.fields l.slopes l.src l.v l.top) l.initial.dst g.row.N)
