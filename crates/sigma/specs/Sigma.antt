-- The sigma of each block of a filter region (Specification 7.5, 7.6).
use Rattle.std.specs.Prelude.{cond, List, ℕ, ◌+◌, ◌*◌, ◌/◌, ◌%◌, get_or, Float}
use Rattle.std.specs.Float.{nan}
use Rattle.planes.specs.Sets.{tab}
use Rattle.frame.specs.declared.Frame.{Frame}
use Rattle.frame.specs.Sizes.{inner_of}
use Rattle.sigma_groups.specs.declared.blocks.Blocks.{Blocks}
use Rattle.sigma_grids.specs.Table.{present, grid_width, grid_start}
use Rattle.sigma_groups.specs.Measures.{blocks_across, blocks_down}
use Rattle.sigma_groups.specs.Held.{group_at}

-- the sigma of a cell of a group: from its grid, or `sigma_for_modular` where the grid is missing
unfoldable pub sigma_in : List ℕ → List Float → Float → ℕ → ℕ → ℕ → Float
sigma_in t grids modular group column row =
    cond (present t group) (get_or grids (grid_start t group + (row * grid_width t group + column)) nan) modular

-- the sigma of block (bx, by) of the frame
unfoldable pub frame_sigma : Frame → List ℕ → List Float → Float → ℕ → ℕ → Float
frame_sigma f t grids modular bx by =
    sigma_in t grids modular (group_at f bx by) (inner_of bx f.group_size_shift) (inner_of by f.group_size_shift)

module _ (f : Frame) (b : Blocks) (t : List ℕ) (grids : List Float) (modular : Float) where
  -- the sigma of block (x, y) of the filter region
  unfoldable pub block_sigma : ℕ → ℕ → Float
  block_sigma x y = frame_sigma f t grids modular (b.left + x) (b.top + y)

  -- all sigmas of the filter region, row of blocks by row
  unfoldable pub block_sigmas : List Float
  block_sigmas = tab (blocks_down b * blocks_across b) (λ i. block_sigma (i % blocks_across b) (i / blocks_across b))
