-- The numbers of some inputs, computed. Assumes nothing.
use Rattle.std.specs.Prelude.{◌≡◌, refl, List, [], ◌∷◌, ℕ, Float}
use Rattle.std.specs.Float.{nan}
use Rattle.frame.specs.declared.Frame.{Frame}
use Rattle.frame.specs.Sizes.{sizes_of}
use Rattle.sigma_groups.specs.declared.blocks.Blocks.{Blocks}
use Rattle.sigma_grids.specs.Table.{bad_grid, cells, grid_start, grid_lacks_block, some_below}
use Rattle.sigma_groups.specs.Held.{not_held, some_not_held}
use Rattle.frame.specs.Outcome.{bad_sides, bad_settings}
use Rattle.sigma_groups.specs.Outcome.{table_fits, grids_fit, sigma_number}
use Rattle.sigma_groups.specs.Measures.{bad_blocks}

-- a frame of w × h samples with groups of 128 × 128 blocks
abbrev frame : ℕ → ℕ → ℕ → Frame
frame w h u = record { width = w; height = h; upsampling = u; lf_level = 0; group_size_shift = 0 }

abbrev region : ℕ → ℕ → ℕ → ℕ → Blocks
region l t w h = record { left = l; top = t; width = w; height = h }

-- a table of four numbers instead of three: 7, and no entry is read
wrong-length : (on : ℕ) (a b c d : ℕ) (grids : List Float) (n : ℕ) → sigma_number on (frame 8 8 1) (region 0 0 8 8) (a ∷ b ∷ c ∷ d ∷ []) grids n ≡ 7
unfolding bad_sides bad_settings bad_blocks table_fits sizes_of
wrong-length on a b c d grids n = refl

-- a present grid 1,025 cells wide: 4, whatever the grids and the sigmas are
wide-grid : (on : ℕ) (h : ℕ) (grids : List Float) (n : ℕ) → sigma_number on (frame 8 8 1) (region 0 0 8 8) (1 ∷ 1025 ∷ h ∷ []) grids n ≡ 4
unfolding bad_sides bad_settings bad_blocks table_fits sizes_of some_below bad_grid
wide-grid on h grids n = refl

-- presence 2: 9; the grid's sides and the length of the grids slice are passed over, a wrong number of sigmas is still 7
faulty-presence : (w h : ℕ) (grids : List Float) → (sigma_number 1 (frame 8 8 1) (region 0 0 8 8) (2 ∷ w ∷ h ∷ []) grids 1 ≡ 9) × (sigma_number 1 (frame 8 8 1) (region 0 0 8 8) (2 ∷ w ∷ h ∷ []) grids 2 ≡ 7)
unfolding bad_sides bad_settings bad_blocks table_fits sizes_of some_below bad_grid some_not_held not_held grid_lacks_block
faulty-presence w h grids = (refl, refl)

-- upsampling 3: 9; table and grids are passed over
faulty-frame : (t : List ℕ) (grids : List Float) → sigma_number 1 (frame 8 8 3) (region 0 0 8 8) t grids 1 ≡ 9
unfolding bad_sides bad_settings bad_blocks
faulty-frame t grids = refl

-- flag 2: 9; the number of sigmas and 8 are passed over
faulty-flag : (n : ℕ) → sigma_number 2 (frame 8 8 1) (region 128 0 8 8) (0 ∷ 0 ∷ 0 ∷ []) [] n ≡ 9
unfolding bad_sides bad_settings bad_blocks table_fits grids_fit grid_start cells sizes_of some_below bad_grid
faulty-flag n = refl

-- a block past the only group, and a block that a grid of one cell lacks: 8, and 0 with the EPF off
not-held : (sigma_number 1 (frame 8 8 1) (region 128 0 8 8) (0 ∷ 0 ∷ 0 ∷ []) [] 1 ≡ 8) × (sigma_number 1 (frame 16 8 1) (region 1 0 8 8) (1 ∷ 1 ∷ 1 ∷ []) (nan ∷ []) 1 ≡ 8) × (sigma_number 0 (frame 16 8 1) (region 1 0 8 8) (1 ∷ 1 ∷ 1 ∷ []) (nan ∷ []) 0 ≡ 0)
unfolding bad_sides bad_settings bad_blocks table_fits grids_fit grid_start cells sizes_of some_below bad_grid some_not_held not_held grid_lacks_block
not-held = (refl, refl, refl)

-- a grids slice one cell too short: 7, although a block is not held
short-grids : sigma_number 1 (frame 16 8 1) (region 1 0 8 8) (1 ∷ 1 ∷ 2 ∷ []) (nan ∷ []) 1 ≡ 7
unfolding bad_sides bad_settings bad_blocks table_fits grids_fit grid_start cells sizes_of some_below bad_grid
short-grids = refl
