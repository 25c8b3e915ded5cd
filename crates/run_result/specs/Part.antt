-- The result region of a set, as the loops copy it. Definitions only.
use Rattle.std.specs.Prelude.{List, ℕ, ◌+◌, ◌*◌, get_or, Float}
use Rattle.std.specs.Float.{nan}
use Rattle.planes.specs.declared.Layout.{Layout}
use Rattle.planes.specs.Band.{result_left, result_top, result_width, result_height}

-- the layout with the result region in place of the filter region
unfoldable pub part_of : Layout → Layout
part_of l = record { image = l.image; left = result_left l; top = result_top l; width = result_width l; height = result_height l; full = l.full }

-- sample x of the filter region's row y; the image row of the first one starts at index `from`
unfoldable pub rows_of : Layout → ℕ → List Float → ℕ → ℕ → Float
rows_of l from src = λ y x. get_or src (from + y * l.image.width + l.left + x) nan
