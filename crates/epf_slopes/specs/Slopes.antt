-- The slopes of a tile's columns (Specification 11.5, 11.7): (6.6 × (s − 1)) / sigma × M, for rows inside a block and for rows at a block's
-- border. Definitions only.
use Rattle.std.specs.Prelude.{◌≡◌, cond, ◌&&◌, List, ℕ, ◌+◌, ◌*◌, ◌/◌, ◌<◌, leb, length, get_or, Float}
use Rattle.std.specs.Float.{nan}
use Rattle.planes.specs.Samples.{◌⊗◌, ◌⊘◌}
use Rattle.planes.specs.Fill.{fill}
use Rattle.epf_step.specs.Steps.{falloff, border, multiplier}

-- ---- sizes, as in src/lib.rt

-- the columns of a block
abbrev pub block : ℕ
block = 8

-- the largest number of blocks in a tile
abbrev pub tile_blocks : ℕ
tile_blocks = 8

-- the columns that have slopes, for each kind of row; the slopes of border rows start at this index
abbrev pub slope_columns : ℕ
slope_columns = 64

-- the slopes of both kinds of rows
abbrev pub slopes_length : ℕ
slopes_length = 128

-- ---- the definitions

-- the slope of column i; the sigma of block 0 is at index `first`, and `row` decides whether the row is at a border
unfoldable pub slope_at : List Float → ℕ → Float → Float → ℕ → ℕ → Float
slope_at sigmas first scale edge row i = falloff ⊘ get_or sigmas (first + i / block) nan ⊗ multiplier scale edge row i

-- the slopes of rows at a block's border come after those of the other rows
abbrev pub first_slope : ℕ → ℕ
first_slope row = cond (border row) slope_columns 0

-- the list after both kinds of slopes are stored; row 1 represents the rows inside a block, row 0 those at a border
unfoldable pub slopes_of : List Float → ℕ → ℕ → Float → Float → List Float → List Float
slopes_of sigmas first blocks scale edge d =
    cond (leb blocks tile_blocks && leb (first + blocks) (length sigmas))
    (fill (fill d 0 (blocks * block) (slope_at sigmas first scale edge 1)) slope_columns (blocks * block) (slope_at sigmas first scale edge 0)) d

-- ---- what callers use

pub record Sloped (sigmas : List Float) (first blocks : ℕ) (scale edge : Float) (slopes : List Float) : Type 0 where
  pub slopes-length : length slopes ≡ slopes_length
  pub inner : (i : ℕ) → i < blocks * block → get_or slopes (0 + i) nan ≡ slope_at sigmas first scale edge 1 i
  pub outer : (i : ℕ) → i < blocks * block → get_or slopes (slope_columns + i) nan ≡ slope_at sigmas first scale edge 0 i
