-- The invariant: i rows of n are written, and the next one starts at o.
use Rattle.std.proofs.Common.{◌≡◌, ◌+◌, ◌-◌, ◌*◌, ◌≤◌, length}
use Rattle.planes.specs.Rect.{rows_fill}
use Rattle.gabor_plane.specs.Plane.{region_rows}
use Rattle.gabor_plane.proofs.source.Source.filter_rows.Given as goal

abbrev pub invariant-loop-i : goal.invariant-loop-i
invariant-loop-i l =
    (l.i ≤ l.n) × (l.o ≡ l.self.region.at + l.from * l.self.region.stride + l.i * l.self.region.stride) × (length l.dst ≡ length l.initial.dst)
    × (l.dst ≡ rows_fill l.initial.dst (l.self.region.at + l.from * l.self.region.stride) l.self.region.stride l.self.region.width l.i
    (region_rows l.self.samples.now l.self.region l.self.kernel l.from))

abbrev pub decreases-loop-i : goal.decreases-loop-i
decreases-loop-i l = l.n - l.i
