-- The samples outside the filter region, copied row by row. Definitions only.
use Rattle.std.specs.Prelude.{cond, List, ℕ, ◌+◌, ◌*◌, get_or, Float}
use Rattle.std.specs.Float.{nan}
use Rattle.planes.specs.declared.Layout.{Layout}
use Rattle.planes.specs.Picture.{Picture}
use Rattle.planes.specs.Sets.{of}
use Rattle.planes.specs.Band.{in_filter}

-- ---- one row of w samples from index o: s is the list read, d is the list written
module _ (l : Layout) (y o : ℕ) (s d : List Float) where
  -- the row after the copy: samples of the filter region stay, all others are those of s
  unfoldable pub row_outside : ℕ → Float
  row_outside x = cond (in_filter l x y) (get_or d (o + x) nan) (get_or s (o + x) nan)

module _ (l : Layout) (from at w : ℕ) (s d : List Float) where
  -- the same for each row
  unfoldable pub rows_outside : ℕ → ℕ → Float
  rows_outside i x = cond (in_filter l x (from + i)) (get_or d (at + i * w + x) nan) (get_or s (at + i * w + x) nan)

module _ (l : Layout) (w h from : ℕ) (s d : List Float) where
  -- the same for each row of each plane
  unfoldable pub planes_outside_of : Picture
  planes_outside_of = λ c x i. cond (in_filter l x (from + i)) (of w h d c x (from + i)) (of w h s c x (from + i))
