-- One pass over rows of the result region (Specification 9.2, 9.3): which samples it writes, and the set after it.
-- Definitions only; the laws are in proofs/Stored.antt.
use Rattle.std.specs.Prelude.{Bool, cond, ◌&&◌, ◌||◌, List, ℕ, ◌+◌, ◌-◌, ◌*◌, min, leb, eqb, length, Float}
use Rattle.planes.specs.declared.Layout.{Layout}
use Rattle.planes.specs.Picture.{Picture, in_rect}
use Rattle.planes.specs.Sets.{of, set_of}

-- ---- the result region: the image region or the filter region (Specification 9.2)

abbrev pub result_left : Layout → ℕ
result_left l = cond l.full 0 l.left

abbrev pub result_top : Layout → ℕ
result_top l = cond l.full 0 l.top

abbrev pub result_width : Layout → ℕ
result_width l = cond l.full l.image.width l.width

abbrev pub result_height : Layout → ℕ
result_height l = cond l.full l.image.height l.height

-- column x and row y of the image lie in the filter region
unfoldable pub in_filter : Layout → ℕ → ℕ → Bool
in_filter l x y = in_rect l.left l.width l.top l.height x y

-- column x and row y of the image lie in the rows of the result region from `from` up to, not including, `to`
unfoldable pub written : Layout → ℕ → ℕ → ℕ → ℕ → Bool
written l from to x y = in_rect (result_left l) (result_width l) (result_top l + from) (to - from) x y

-- the filter region of a set, as a picture
unfoldable pub inner : Layout → List Float → Picture
inner l s = λ c x y. of l.image.width l.image.height s c (l.left + x) (l.top + y)

-- The set dst of n planes after a pass over those rows that reads the set src; p has the filtered samples of the filter region.
-- A written sample is the filtered one inside the filter region and a copy from src outside it. All other samples stay.
unfoldable pub passed : ℕ → Layout → ℕ → ℕ → Picture → List Float → List Float → List Float
passed n l from to p src dst = set_of n l.image.width l.image.height (λ c x y.
    cond (written l from to x y)
    (cond (in_filter l x y) (p c (x - l.left) (y - l.top)) (of l.image.width l.image.height src c x y))
    (of l.image.width l.image.height dst c x y))

-- ---- layouts, sets and rows that fit

-- sides of at most 16,384 (Specification 4.1), and the filter region inside the image region
abbrev pub layout_fits : Layout → Bool
layout_fits l = (leb l.image.width 16384 && leb l.image.height 16384) && (leb (l.left + l.width) l.image.width && leb (l.top + l.height) l.image.height)

-- a picture has one plane, if it is grey, or three (Specification 4.1)
abbrev pub planes_fit : ℕ → Bool
planes_fit n = eqb n 1 || eqb n 3

-- a slice of length len is a set of n planes, at most three
abbrev pub set_fits : Layout → ℕ → ℕ → Bool
set_fits l n len = layout_fits l && (leb n 3 && eqb len (n * l.image.height * l.image.width))

-- rows of the result region: from ≤ to, and `to` is at most its height
abbrev pub rows_fit : Layout → ℕ → ℕ → Bool
rows_fit l from to = leb from to && leb to (result_height l)

abbrev pub band_fits : Layout → ℕ → ℕ → ℕ → List Float → List Float → Bool
band_fits l n from to src dst = set_fits l n (length src) && (set_fits l n (length dst) && rows_fit l from to)

-- the row of the filter region at a row of the result region: 0 for rows above the filter region, its height for rows below
abbrev pub filter_row : Layout → ℕ → ℕ
filter_row l y = cond l.full (min (y - l.top) l.height) y

-- the set after copying the samples outside the filter region: all others stay, and nothing is copied if sets, layout or rows do not fit
unfoldable pub copied_outside : Layout → ℕ → ℕ → ℕ → List Float → List Float → List Float
copied_outside l n from to src dst = cond (band_fits l n from to src dst) (passed n l from to (inner l dst) src dst) dst
