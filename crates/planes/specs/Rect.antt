-- The same rectangle of each plane of a set, overwritten row by row. Definitions only.
use Rattle.std.specs.Prelude.{List, ℕ, zero, suc, ◌+◌, ◌*◌, Float}
use Rattle.planes.specs.Picture.{Picture}
use Rattle.planes.specs.Fill.{fill}

-- d with m runs of n samples overwritten; run i is v i and starts at index at + i * stride
unfoldable pub rows_fill : List Float → ℕ → ℕ → ℕ → ℕ → (ℕ → ℕ → Float) → List Float
rows_fill d at stride n zero v = d
rows_fill d at stride n (suc m) v = fill (rows_fill d at stride n m v) (at + m * stride) n (v m)

-- d, planes of w columns and h rows, with a rectangle overwritten in its first k planes: n columns from column left, m rows from row top.
-- v has the samples, with columns and rows counted from the rectangle's corner.
unfoldable pub planes_fill : ℕ → ℕ → ℕ → ℕ → ℕ → ℕ → Picture → List Float → ℕ → List Float
planes_fill w h left n top m v d zero = d
planes_fill w h left n top m v d (suc k) = rows_fill (planes_fill w h left n top m v d k) ((k * h + top) * w + left) w n m (λ i x. v k x i)
