-- The blocks of a filter region (Specification 2.3, 7.8): how many there are across and down, and the sigma of each. Definitions only.
use Rattle.std.specs.Prelude.{List, ℕ, ◌+◌, ◌*◌, ◌/◌, get_or, Float}
use Rattle.std.specs.Float.{nan}
use Rattle.frame.specs.Sizes.{blocks_along}
use Rattle.epf_sizes.specs.Sizes.{lanes as tile_columns}
use Rattle.planes.specs.declared.Layout.{Layout}

-- rows and columns of a block
abbrev pub block_side : ℕ
block_side = 8

-- the largest number of blocks of a tile
abbrev pub tile_blocks : ℕ
tile_blocks = tile_columns / block_side

-- blocks across the filter region
abbrev pub block_columns : Layout → ℕ
block_columns l = blocks_along l.width

-- sigmas are stored row of blocks by row of blocks
abbrev pub sigma_of : ℕ → List Float → ℕ → ℕ → Float
sigma_of n sigmas = λ bx by. get_or sigmas (by * n + bx) nan

-- blocks down the filter region
abbrev pub block_rows : Layout → ℕ
block_rows l = blocks_along l.height
