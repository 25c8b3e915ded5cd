-- The limits of one axis (Specification 4.1). Definitions only.
use Rattle.std.specs.Prelude.{Bool, cond, ◌&&◌, ℕ, leb, ℤ, pos, negsuc, Option, Some, None}
use Rattle.std.specs.Int.Signed.{le_z}
use Rattle.region_interval.specs.Interval.{extent}
use Rattle.region_interval.specs.declared.Span.{Span}
use Rattle.region_interval.specs.declared.Axis.{Axis}

-- a left or a top: −1,048,576 to 1,048,576
unfoldable pub corner_fits : ℤ → Bool
corner_fits z = le_z (negsuc 1048575) z && le_z z (pos 1048576)

-- a side in region arithmetic: 0 to 16,384
unfoldable pub side_fits : ℕ → Bool
side_fits n = leb n 16384

-- a span within the limits of region arithmetic
unfoldable pub span_fits : Span → Bool
span_fits s = corner_fits s.start && side_fits (extent s)

-- a span within the limits, as a start and a length
unfoldable pub axis_of : Span → Option Axis
axis_of s = cond (span_fits s) (Some (record { start = s.start; len = extent s })) None
