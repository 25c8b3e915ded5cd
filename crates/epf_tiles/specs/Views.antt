-- Where a tile's samples are read: its windows, or the planes themselves. Definitions only.
use Rattle.std.specs.Prelude.{Bool, ◌&&◌, ℕ, ◌+◌, ◌-◌, ◌*◌, ◌≤◌, leb}
use Rattle.planes.specs.declared.Layout.{Layout}
use Rattle.epf_rects.specs.declared.Rect.{Rect}
use Rattle.epf_distances.specs.declared.View.{View}
use Rattle.epf_sizes.specs.Sizes.{stride, window_plane, margin_rows, margin_columns}

-- a tile's windows
abbrev pub window_view : View
window_view = record { plane = window_plane; stride = stride; corner = 0 }

-- the columns on a tile's right
abbrev pub right_columns : ℕ
right_columns = 8

-- the rectangle has the samples that a step reads on every side inside the filter region
abbrev pub lies_inside : Layout → Rect → Bool
lies_inside l q =
    leb margin_columns q.x && (leb margin_rows q.y && (leb (q.x + q.cols + right_columns) l.width && leb (q.y + q.rows + margin_rows) l.height))

pub record Inside (l : Layout) (q : Rect) : Type 0 where
  pub left : margin_columns ≤ q.x
  pub above : margin_rows ≤ q.y
  pub right : q.x + q.cols + right_columns ≤ l.width
  pub below : q.y + q.rows + margin_rows ≤ l.height

-- such a rectangle in a set
abbrev pub planes_view : Layout → Rect → View
planes_view l q =
    record { plane = l.image.height * l.image.width; stride = l.image.width; corner = (l.top + (q.y - margin_rows)) * l.image.width + (l.left + (q.x - margin_columns)) }
