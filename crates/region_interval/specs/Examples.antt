-- Division rounded down and rounded up, computed. Assumes nothing.
use Rattle.std.specs.Prelude.{◌≡◌, refl, pos, negsuc}
use Rattle.region_interval.specs.Integers.{floor_div, ceil_div}

-- rounded toward minus infinity, at and around zero
floor-below : floor_div (negsuc 2) 2 ≡ negsuc 1
floor-below = refl

floor-zero : floor_div (pos 0) 8 ≡ pos 0
floor-zero = refl

floor-minus-one : floor_div (negsuc 0) 8 ≡ negsuc 0
floor-minus-one = refl

ceil-minus-one : ceil_div (negsuc 0) 8 ≡ pos 0
ceil-minus-one = refl

ceil-one : ceil_div (pos 1) 8 ≡ pos 1
ceil-one = refl
