-- When a placement is refused, read off the table of checks. Assumes nothing.
use mathlib.Core.Path.{◌≡◌, refl}
use mathlib.Core.Bool.{Bool, true, false, cond, not, ◌&&◌}
use lib.Dec.{T, eqb}
use lib.Ieee.Fits.{and_l, and_r}
use Rattle.refusals.specs.Numbers.{out_of_limits, not_inside}
use Rattle.refusals.specs.Checks.{first_of}
use Rattle.refusals.proofs.Tables.{met}
use Rattle.refusals.proofs.Rows.{here, below, row-passed}
use Rattle.region.specs.Measures.{picture_fits}
use Rattle.region.specs.Regions.{inside}
use Rattle.region.specs.declared.Region.{Region}
use Rattle.region_placement.specs.Placed.{picture_check, inside_check, placed_checks}

-- ---- laws: the number, by the first check that applies
pub placed-inside : (image filter : Region) → picture_fits image ≡ true → picture_fits filter ≡ true → inside image filter ≡ true → first_of (placed_checks image filter) ≡ 0
placed-inside image filter e f g = rw (e, f, g)

-- whether none applies
pub placed_flag : (image filter : Region) → eqb (first_of (placed_checks image filter)) 0 ≡ ((picture_fits image && picture_fits filter) && inside image filter)
placed_flag image filter = go (picture_fits image) (picture_fits filter) (inside image filter)
  where
    go : (a b c : Bool) → eqb (cond (not (a && b)) out_of_limits (cond (not c) not_inside 0)) 0 ≡ ((a && b) && c)
    go true true true = refl
    go true true false = refl
    go true false c = refl
    go false b c = refl

-- ---- what holds of the regions if the number is 0

pub record PlacedFits (image filter : Region) : Type 0 where
  pub image-picture : T (picture_fits image)
  pub filter-picture : T (picture_fits filter)
  pub filter-inside : T (inside image filter)

pub placed-fits : (image filter : Region) → first_of (placed_checks image filter) ≡ 0 → PlacedFits image filter
placed-fits image filter e =
    let passed = row-passed (placed_checks image filter) tt e in
    let both = met (picture_fits image && picture_fits filter) (passed (picture_check image filter) (search here depth 20)) in
    record {
      image-picture = and_l (picture_fits image) (picture_fits filter) both;
      filter-picture = and_r (picture_fits image) (picture_fits filter) both;
      filter-inside = met (inside image filter) (passed (inside_check image filter) (search (here, below) depth 20));
    }
