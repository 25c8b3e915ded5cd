-- The limits of regions (Specification 4.1). Definitions only.
use Rattle.std.specs.Prelude.{Bool, ◌&&◌, ℕ, ◌*◌, leb}
use Rattle.region_axis.specs.Measures.{corner_fits, side_fits}
use Rattle.region.specs.declared.Region.{Region}

-- the limits of region arithmetic: left and top −1,048,576 to 1,048,576, sides 0 to 16,384
unfoldable pub bounds_fit : Region → Bool
bounds_fit r = (corner_fits r.left && side_fits r.width) && (corner_fits r.top && side_fits r.height)

-- sides at least 1, area at most 16,777,216
abbrev pub area_fits : ℕ → ℕ → Bool
area_fits w h = leb 1 w && (leb 1 h && leb (w * h) 16777216)

-- the limits of an image or filter region
unfoldable pub picture_fits : Region → Bool
picture_fits r = bounds_fit r && area_fits r.width r.height

-- the limits of a rectangle that a caller asks for, which may be empty: as in region arithmetic, and an area of at most 16,777,216
unfoldable pub rectangle_fits : Region → Bool
rectangle_fits r = bounds_fit r && leb (r.width * r.height) 16777216
