-- A region as its columns and rows; emptiness and containment (Specification 2.1, 6.1).
use Rattle.std.specs.Prelude.{Bool, ◌&&◌, ◌||◌, eqb, ℤ, pos}
use Rattle.region_interval.specs.Interval.{span_of, extent}
use Rattle.region_interval.specs.Overlap.{covers, In}
use Rattle.region_interval.specs.declared.Span.{Span}
use Rattle.region.specs.declared.Region.{Region}

-- a region's columns and its rows
abbrev pub columns : Region → Span
columns r = span_of r.left r.width

abbrev pub rows : Region → Span
rows r = span_of r.top r.height

-- position (x, y) lies in r
pub record Holds (r : Region) (x y : ℤ) : Type 0 where
  pub column : In (columns r) x
  pub row : In (rows r) y

unfoldable pub region_of : Span → Span → Region
region_of x y = record { left = x.start; top = y.start; width = extent x; height = extent y }

abbrev pub zero_region : Region
zero_region = record { left = pos 0; top = pos 0; width = 0; height = 0 }

-- a region is empty if a side is 0
abbrev pub is_empty : Region → Bool
is_empty r = eqb r.width 0 || eqb r.height 0

-- t is inside r: each position of t is a position of r
unfoldable pub inside : Region → Region → Bool
inside r t = covers (columns r) (columns t) && covers (rows r) (rows t)

-- an empty target is contained too
abbrev pub contains : Region → Region → Bool
contains r t = is_empty t || inside r t
