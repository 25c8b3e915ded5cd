-- The samples of a window: those of a filter region, mirrored at its edges. Definitions only.
use Rattle.std.specs.Prelude.{◌≡◌, Bool, cond, ◌&&◌, List, ℕ, ◌+◌, ◌-◌, ◌*◌, ◌<◌, ◌≤◌, leb, ltb, length, get_or, Float}
use Rattle.std.proofs.Math.IntN.{sub_ℕ}
use Rattle.std.specs.Float.{nan}
use Rattle.mirror.specs.Mirror.{mirror}
use Rattle.planes.specs.declared.Layout.{Layout}
use Rattle.planes.specs.Picture.{Picture}
use Rattle.planes.specs.Rect.{planes_fill}
use Rattle.planes.specs.Band.{inner, set_fits}
use Rattle.planes.specs.Fits.{LayoutFits}
use Rattle.epf_sizes.specs.Sizes.{stride, window_rows, windows_length, max_side}
use Rattle.epf_window.specs.declared.WindowPart.{WindowPart}

-- ---- the samples

-- column j of a window's row that starts four columns left of x, in a row of w samples that starts at index `row`
unfoldable pub row_sample : List Float → ℕ → ℕ → ℕ → ℕ → Float
row_sample src row x w j = get_or src (row + mirror (sub_ℕ (x + j) 4) w) nan

-- Column j and row i of a window on column x and row y of the filter region: the sample four columns left of x + j and three rows above y + i, mirrored (Specification 8.2).
unfoldable pub window_sample : Layout → List Float → ℕ → ℕ → Picture
window_sample l src x y = λ c j i. inner l src c (mirror (sub_ℕ (x + j) 4) l.width) (mirror (sub_ℕ (y + i) 3) l.height)

-- a set of n planes, a position in the filter region, and rows and columns of a window
abbrev pub window_fits : Layout → ℕ → ℕ → ℕ → ℕ → ℕ → ℕ → ℕ → Bool
window_fits l n len x y top rows cols =
    set_fits l n len && (ltb x l.width && (ltb y l.height && (leb top window_rows && (leb rows (window_rows - top) && (leb 4 cols && leb cols stride)))))

-- the window with `rows` rows from row `top` on and `cols` columns of each of n planes loaded
abbrev pub window_filled : Layout → ℕ → List Float → ℕ → ℕ → ℕ → ℕ → ℕ → List Float → List Float
window_filled l n src x y top rows cols win = planes_fill stride window_rows 0 cols top rows (λ c j i. window_sample l src x y c j (top + i)) win n

-- the window after the call; unchanged if the arguments do not fit
unfoldable pub loaded : Layout → ℕ → List Float → ℕ → ℕ → ℕ → ℕ → ℕ → List Float → List Float
loaded l n src x y top rows cols win = cond (window_fits l n (length src) x y top rows cols) (window_filled l n src x y top rows cols win) win

-- ---- what the functions require

pub record WindowFits (l : Layout) (n len x y top rows cols : ℕ) : Type 0 where
  pub layout : LayoutFits l
  pub planes-le : n ≤ 3
  pub source : len ≡ n * l.image.height * l.image.width
  pub x_lt : x < l.width
  pub y-lt : y < l.height
  pub rows-le : top + rows ≤ window_rows
  pub cols-ge : 4 ≤ cols
  pub cols-le : cols ≤ stride

-- a row of w samples inside a list, and a window's row
pub record RowFits (at row x w cols len : ℕ) : Type 0 where
  pub row-le : row + w ≤ len
  pub width-le : w ≤ max_side
  pub x_lt : x < w
  pub target-le : at + cols ≤ windows_length
  pub cols-ge : 4 ≤ cols

-- plane c of a set of `len` samples, and a part of a window
pub record PlaneFits (l : Layout) (c : ℕ) (p : WindowPart) (len : ℕ) : Type 0 where
  pub layout : LayoutFits l
  pub plane-le : c ≤ 2
  pub region-le : (c * l.image.height + l.top + (l.height - 1)) * l.image.width + l.left + l.width ≤ len
  pub x_lt : p.x < l.width
  pub y-lt : p.y < l.height
  pub rows-le : p.top + p.rows ≤ window_rows
  pub cols-ge : 4 ≤ p.cols
  pub cols-le : p.cols ≤ stride
