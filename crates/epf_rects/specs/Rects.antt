-- Rectangles of a filter region in a set, copied from another list: when the arguments fit, and the set after the copy. Definitions only.
use Rattle.std.specs.Prelude.{◌≡◌, Bool, cond, ◌&&◌, List, ℕ, ◌+◌, ◌*◌, ◌<◌, ◌≤◌, leb, eqb, length, Float}
use Rattle.planes.specs.declared.Layout.{Layout}
use Rattle.planes.specs.Picture.{Picture}
use Rattle.planes.specs.Rect.{planes_fill}
use Rattle.planes.specs.Band.{inner, set_fits}
use Rattle.planes.specs.Fits.{LayoutFits}
use Rattle.epf_rects.specs.declared.Rect.{Rect}

-- ---- the definitions

-- a set of n planes with picture v in the rectangle, counted from the rectangle's corner
abbrev pub rect_filled : Layout → ℕ → Rect → Picture → List Float → List Float
rect_filled l n q v d = planes_fill l.image.width l.image.height (l.left + q.x) q.cols (l.top + q.y) q.rows v d n

-- the rectangle lies in the filter region and has at least one row, and `len` is the length of a set of n planes
abbrev pub rect_fits : Layout → ℕ → Rect → ℕ → Bool
rect_fits l n q len = set_fits l n len && (leb (q.x + q.cols) l.width && (leb (q.y + q.rows) l.height && leb 1 q.rows))

-- the set after copying a rectangle; unchanged if the rectangle or the sets do not fit
unfoldable pub copied_rect : Layout → ℕ → Rect → List Float → List Float → List Float
copied_rect l n q src d = cond (rect_fits l n q (length d) && eqb (length src) (length d)) (rect_filled l n q (λ c i r. inner l src c (q.x + i) (q.y + r)) d) d

-- ---- what the loops require

pub record RectFits (l : Layout) (n : ℕ) (q : Rect) (len : ℕ) : Type 0 where
  pub layout : LayoutFits l
  pub planes-le : n ≤ 3
  pub across : q.x + q.cols ≤ l.width
  pub down : q.y + q.rows ≤ l.height
  pub rows-pos : 0 < q.rows
  pub set : len ≡ n * l.image.height * l.image.width
