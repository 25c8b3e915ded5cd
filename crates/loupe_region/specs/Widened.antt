-- The rectangle of a whole filter region that a wanted rectangle needs (Specification 17.2). Definitions only.
use Rattle.std.specs.Prelude.{ℕ}
use Rattle.region_interval.specs.Interval.{reaching}
use Rattle.region_interval.specs.Overlap.{meet}
use Rattle.region.specs.declared.Region.{Region}
use Rattle.region.specs.Regions.{columns, rows, region_of}

-- m more samples on each side, left and top then moved down to multiples of 8, and all clipped to the whole
unfoldable pub widened : ℕ → Region → Region → Region
widened m whole wanted = region_of (meet (reaching m 8 (columns wanted)) (columns whole)) (meet (reaching m 8 (rows wanted)) (rows whole))
