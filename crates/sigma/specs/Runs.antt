-- How block sigmas are written: row of blocks by row, each row in runs. A run is a part of a row of blocks that lies in one group. Definitions only.
use Rattle.std.specs.Prelude.{◌≡◌, true, false, List, ℕ, ◌+◌, ◌*◌, ◌<◌, ◌≤◌, length, Float}
use Rattle.frame.specs.declared.Frame.{Frame}
use Rattle.frame.specs.declared.GroupSizes.{GroupSizes}
use Rattle.frame.specs.Sizes.{group_dim_of, inner_of, sizes_of}
use Rattle.sigma.specs.declared.Run.{Run}
use Rattle.sigma.specs.declared.BlockRow.{BlockRow}
use Rattle.sigma_grids.specs.Table.{present, grid_width, grid_height, grid_start, bad_grid, some_below}
use Rattle.sigma_groups.specs.Held.{group_at, not_held}
use Rattle.sigma.specs.Sigma.{frame_sigma}
use Rattle.sigma_groups.specs.Fitting.{TableOf}

-- ---- a run of blocks of one group

-- a present grid of the group holds the cells of the run
pub record Holds (t : List ℕ) (grids : List Float) (r : Run) : Type 0 where
  pub width-le : grid_width t r.group ≤ 1024
  pub height-le : grid_height t r.group ≤ 1024
  pub columns : r.column + r.n ≤ grid_width t r.group
  pub row_lt : r.row < grid_height t r.group
  pub grid-end-le : grid_start t r.group + grid_width t r.group * grid_height t r.group ≤ length grids

pub record RunFits (t : List ℕ) (grids : List Float) (r : Run) : Type 0 where
  pub entry : 3 * r.group + 3 ≤ length t
  pub table-le : length t ≤ 768
  pub before : some_below r.group (bad_grid t) ≡ false
  pub holds : present t r.group ≡ true → Holds t grids r

-- ---- runs of a row of blocks

-- the run that starts at block (bx, by): blocks of one group, at least 1 and at most limit
pub record RunOf (f : Frame) (bx by limit : ℕ) (r : Run) : Type 0 where
  pub group-is : r.group ≡ group_at f bx by
  pub column-is : r.column ≡ inner_of bx f.group_size_shift
  pub row_is : r.row ≡ inner_of by f.group_size_shift
  pub n_pos : 0 < r.n
  pub n-le : r.n ≤ limit
  pub one-group : r.column + r.n ≤ group_dim_of f.group_size_shift

-- the grids slice holds the grids that the table describes
pub record GridsOf (f : Frame) (sizes : GroupSizes) (t : List ℕ) (grids : List Float) : Type 0 where
  pub table : TableOf f sizes t
  pub sides : some_below (sizes_of f).num_groups (bad_grid t) ≡ false
  pub cells_are : length grids ≡ grid_start t (sizes_of f).num_groups

-- the sigma of block x of a row
unfoldable pub row_sigma : Frame → List ℕ → List Float → Float → BlockRow → ℕ → Float
row_sigma f t grids modular r x = frame_sigma f t grids modular (r.left + x) r.by

-- a row of blocks, each of them held
pub record RowFits (f : Frame) (t : List ℕ) (r : BlockRow) : Type 0 where
  pub left_le : r.left ≤ 131072
  pub across-le : r.across ≤ 2048
  pub held_all : some_below r.across (λ x. not_held f t (r.left + x) r.by) ≡ false
