-- Laws of the limits of regions. Assumes nothing.
use mathlib.Core.Path.{◌≡◌, refl}
use mathlib.Core.Bool.{Bool, true, false, ◌&&◌}
use Prim.Native.Nat.{◌*◌, ◌<◌, ◌≤◌}
use native.Mathlib.Omega.{arith}
use lib.Dec.{T, leb, leb→le}
use lib.Ieee.Fits.{and_l, and_r, and_i}
use lib.IntN.{ℤ, pos}
use lib.Signed.{le_z, mag}
use Rattle.region_interval.specs.Integers.{greatest}
use Rattle.region_interval.specs.Interval.{extent}
use Rattle.region_interval.specs.Overlap.{vacant, meet}
use Rattle.region_axis.specs.Measures.{corner_fits, side_fits, span_fits}
use Rattle.region_axis.proofs.Laws.{place-size, side-size, side-of, extent-back}
use Rattle.region_interval.proofs.Order.{mag-add, between, greatest-over-left, least-under-left, le_of, not-le}
use Rattle.region_interval.specs.declared.Span.{Span}
use Rattle.region.specs.Regions.{columns, rows, region_of}
use Rattle.region.specs.declared.Region.{Region}
use Rattle.region.specs.Measures.{area_fits, bounds_fit, picture_fits}

-- ---- regions within the limits of region arithmetic

module _ (r : Region) (t : T (bounds_fit r)) where
  across : T (corner_fits r.left && side_fits r.width)
  unfolding bounds_fit
  across = and_l (corner_fits r.left && side_fits r.width) (corner_fits r.top && side_fits r.height) t

  down : T (corner_fits r.top && side_fits r.height)
  unfolding bounds_fit
  down = and_r (corner_fits r.left && side_fits r.width) (corner_fits r.top && side_fits r.height) t

  pub bounds-left : T (corner_fits r.left)
  bounds-left = and_l (corner_fits r.left) (side_fits r.width) across

  pub bounds-top : T (corner_fits r.top)
  bounds-top = and_l (corner_fits r.top) (side_fits r.height) down

  pub bounds-width : r.width ≤ 16384
  bounds-width = side-size r.width (and_r (corner_fits r.left) (side_fits r.width) across)

  pub bounds-height : r.height ≤ 16384
  bounds-height = side-size r.height (and_r (corner_fits r.top) (side_fits r.height) down)

  -- the right and bottom edges
  pub far_column : mag (columns r).end < 0x8000_0000
  far_column = omega (arith, mag-add r.left (pos r.width), place-size r.left bounds-left, bounds-width)

  pub far_row : mag (rows r).end < 0x8000_0000
  far_row = omega (arith, mag-add r.top (pos r.height), place-size r.top bounds-top, bounds-height)

pub bounds_of : (r : Region) → T (corner_fits r.left) → T (corner_fits r.top) → r.width ≤ 16384 → r.height ≤ 16384 → T (bounds_fit r)
unfolding bounds_fit
bounds_of r a b w h =
    and_i (corner_fits r.left && side_fits r.width) (corner_fits r.top && side_fits r.height)
    (and_i (corner_fits r.left) (side_fits r.width) a (side-of r.width w)) (and_i (corner_fits r.top) (side_fits r.height) b (side-of r.height h))

-- a region is within the limits if both of its axes are
pub bounds_spans : (x y : Span) → bounds_fit (region_of x y) ≡ (span_fits x && span_fits y)
unfolding bounds_fit region_of span_fits
bounds_spans x y = refl

pub bounds_axes : (r : Region) → bounds_fit r ≡ (span_fits (columns r) && span_fits (rows r))
unfolding bounds_fit span_fits
bounds_axes r = rw (extent-back r.left r.width, extent-back r.top r.height)

-- ---- regions within the limits of an image or filter region

module _ (r : Region) (t : T (picture_fits r)) where
  sides : T (area_fits r.width r.height)
  unfolding picture_fits
  sides = and_r (bounds_fit r) (area_fits r.width r.height) t

  pub picture-bounds : T (bounds_fit r)
  unfolding picture_fits
  picture-bounds = and_l (bounds_fit r) (area_fits r.width r.height) t

  pub picture-width : 1 ≤ r.width
  picture-width = leb→le 1 r.width (and_l (leb 1 r.width) _ sides)

  pub picture-height : 1 ≤ r.height
  picture-height = leb→le 1 r.height (and_l (leb 1 r.height) _ (and_r (leb 1 r.width) _ sides))

  pub picture-area : r.width * r.height ≤ 16777216
  picture-area = leb→le (r.width * r.height) 16777216 (and_r (leb 1 r.height) _ (and_r (leb 1 r.width) _ sides))

-- ---- the intersection of two regions within the limits is within the limits, if it is not empty

meet-narrow : (a b : Span) → vacant (meet a b) ≡ false → extent (meet a b) ≤ extent a
meet-narrow a b e =
    between a.start (meet a b).start (meet a b).end a.end
    (greatest-over-left a.start b.start)
    (le_of (meet a b).start (meet a b).end (omega (arith, not-le (meet a b).end (meet a b).start e)))
    (least-under-left a.end b.end)

place-greatest : (a b : ℤ) → T (corner_fits a) → T (corner_fits b) → T (corner_fits (greatest a b))
place-greatest a b h k = go (le_z a b) refl
  where
    go : (x : Bool) → le_z a b ≡ x → T (corner_fits (greatest a b))
    go true e = rw e k
    go false e = rw e h

pub meet-bounds : (a b : Region) → T (bounds_fit a) → T (bounds_fit b)
    → vacant (meet (columns a) (columns b)) ≡ false → vacant (meet (rows a) (rows b)) ≡ false
    → T (bounds_fit (region_of (meet (columns a) (columns b)) (meet (rows a) (rows b))))
unfolding region_of
meet-bounds a b p q e f =
    bounds_of (region_of (meet (columns a) (columns b)) (meet (rows a) (rows b)))
    (place-greatest a.left b.left (bounds-left a p) (bounds-left b q))
    (place-greatest a.top b.top (bounds-top a p) (bounds-top b q))
    (omega (arith, meet-narrow (columns a) (columns b) e, extent-back a.left a.width, bounds-width a p))
    (omega (arith, meet-narrow (rows a) (rows b) f, extent-back a.top a.height, bounds-height a p))
