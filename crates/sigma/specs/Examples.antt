-- Sigmas of some blocks, computed. Assumes nothing.
use Rattle.std.specs.Prelude.{◌≡◌, refl, List, [], ◌∷◌, ℕ, get_or, replicate, Float}
use Rattle.std.specs.Float.{nan}
use Rattle.planes.specs.Sets.{tab}
use Rattle.frame.specs.declared.Frame.{Frame}
use Rattle.frame.specs.Sizes.{sizes_of}
use Rattle.sigma_groups.specs.declared.blocks.Blocks.{Blocks}
use Rattle.sigma_grids.specs.Table.{bad_grid, cells, grid_start, grid_lacks_block, some_below}
use Rattle.sigma_groups.specs.Held.{not_held, some_not_held}
use Rattle.frame.specs.Outcome.{bad_sides, bad_settings}
use Rattle.sigma_groups.specs.Outcome.{table_fits, grids_fit, sigma_number}
use Rattle.sigma_groups.specs.Measures.{bad_blocks}
use Rattle.sigma.specs.Sigma.{sigma_in, frame_sigma, block_sigma, block_sigmas}

-- one group across and two down, of 128 × 128 blocks; the upper one has a grid of one column, the lower one has none
abbrev frame : Frame
frame = record { width = 8; height = 1040; upsampling = 1; lf_level = 0; group_size_shift = 0 }

abbrev table : List ℕ
table = 1 ∷ 1 ∷ 128 ∷ 0 ∷ 0 ∷ 0 ∷ []

abbrev blocks : ℕ → ℕ → Blocks
blocks top height = record { left = 0; top = top; width = 8; height = height }

-- Specification 14.9: grids in group row 0 and none in row 1, so block row 127 has its cell, and the rows from 128 on have `sigma_for_modular`
missing_grid : (grids : List Float) (modular : Float) → (block_sigma frame (blocks 0 1040) table grids modular 0 127 ≡ get_or grids 127 nan) × (block_sigma frame (blocks 0 1040) table grids modular 0 128 ≡ modular) × (block_sigma frame (blocks 0 1040) table grids modular 0 129 ≡ modular)
unfolding sizes_of grid_start cells sigma_in frame_sigma block_sigma
missing_grid grids modular = (refl, refl, refl)

-- the block sigmas of a filter region of block rows 127 to 129
listed : (grids : List Float) (modular : Float) → block_sigmas frame (blocks 127 24) table grids modular ≡ get_or grids 127 nan ∷ modular ∷ modular ∷ []
unfolding sizes_of grid_start cells sigma_in frame_sigma block_sigma block_sigmas tab
listed grids modular = refl

-- block rows 128 and 129 have the same sigmas in a filter region that starts at row 128
started : (grids : List Float) (modular : Float) → block_sigmas frame (blocks 128 16) table grids modular ≡ modular ∷ modular ∷ []
unfolding sizes_of grid_start cells sigma_in frame_sigma block_sigma block_sigmas tab
started grids modular = refl

-- these inputs are accepted
fits : sigma_number 1 frame (blocks 127 24) table (replicate 128 nan) 3 ≡ 0
unfolding sizes_of bad_sides bad_settings bad_blocks table_fits grids_fit grid_start cells some_below bad_grid some_not_held not_held grid_lacks_block
fits = refl

-- four groups with grids of 128 × 128 cells, and the four blocks where they meet: one cell of each grid, in group order
corner : (grids : List Float) (modular : Float)
    → block_sigmas (record { width = 1040; height = 1040; upsampling = 1; lf_level = 0; group_size_shift = 0 })
    (record { left = 127; top = 127; width = 16; height = 16 })
    (1 ∷ 128 ∷ 128 ∷ 1 ∷ 128 ∷ 128 ∷ 1 ∷ 128 ∷ 128 ∷ 1 ∷ 128 ∷ 128 ∷ [])
    grids
    modular
    ≡ get_or grids 16383 nan ∷ get_or grids 32640 nan ∷ get_or grids 32895 nan ∷ get_or grids 49152 nan ∷ []
unfolding sizes_of grid_start cells sigma_in frame_sigma block_sigma block_sigmas tab
corner grids modular = refl
