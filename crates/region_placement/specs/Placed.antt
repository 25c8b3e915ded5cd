-- The position of a filter region in an image region (Specification 3.1, numbers 4 and 5): its table of checks, and the place if none applies.
use Rattle.std.specs.Prelude.{◌&&◌, not, List, [], ◌∷◌, nat_abs, ◌-ℤ◌}
use Rattle.refusals.specs.Numbers.{out_of_limits, not_inside}
use Rattle.refusals.specs.Checks.{Check, always}
use Rattle.region.specs.Measures.{picture_fits}
use Rattle.region.specs.Regions.{inside}
use Rattle.region.specs.declared.Region.{Region}
use Rattle.region_placement.specs.declared.Place.{Place}

-- a region exceeds the limits of an image or filter region
abbrev pub picture_check : Region → Region → Check
picture_check image filter = always out_of_limits (not (picture_fits image && picture_fits filter))

abbrev pub inside_check : Region → Region → Check
inside_check image filter = always not_inside (not (inside image filter))

abbrev pub placed_checks : Region → Region → List Check
placed_checks image filter = picture_check image filter ∷ inside_check image filter ∷ []

-- columns and rows from the image region's corner
abbrev pub place_of : Region → Region → Place
place_of image filter = record { x = nat_abs (filter.left -ℤ image.left); y = nat_abs (filter.top -ℤ image.top) }
