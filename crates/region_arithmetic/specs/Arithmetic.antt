-- Region arithmetic (Specification 6.1–6.3): interval arithmetic on both axes.
use Rattle.std.specs.Prelude.{cond, ◌||◌, ℕ, ◌^◌, ℤ}
use Rattle.region_interval.specs.Interval.{moved, padded, shrunk, aligned}
use Rattle.region_interval.specs.Overlap.{vacant, meet}
use Rattle.region.specs.Regions.{columns, rows, region_of, zero_region}
use Rattle.region.specs.declared.Region.{Region}

unfoldable pub translated : ℤ → ℤ → Region → Region
translated dx dy r = region_of (moved dx (columns r)) (moved dy (rows r))

-- regions that are disjoint or only touch have the intersection 0, 0, 0, 0
unfoldable pub intersected : Region → Region → Region
intersected a b =
    cond (vacant (meet (columns a) (columns b)) || vacant (meet (rows a) (rows b))) zero_region
    (region_of (meet (columns a) (columns b)) (meet (rows a) (rows b)))

unfoldable pub padded_by : ℕ → Region → Region
padded_by n r = region_of (padded n (columns r)) (padded n (rows r))

-- the cells of m × m positions that the region touches
unfoldable pub shrunk_by : ℕ → Region → Region
shrunk_by m r = region_of (shrunk m (columns r)) (shrunk m (rows r))

-- `downsample`: cells of 2^factor × 2^factor positions
abbrev pub downsampled : ℕ → Region → Region
downsampled f r = shrunk_by (2 ^ f) r

-- `container_aligned`: extended to multiples of m
unfoldable pub aligned_to : ℕ → Region → Region
aligned_to m r = region_of (aligned m (columns r)) (aligned m (rows r))
