-- The numbers of some starts, computed from the table of checks. Assumes nothing.
use Rattle.std.specs.Prelude.{◌≡◌, refl, [], ◌∷◌, ℕ, ℤ, pos, replicate}
use Rattle.std.specs.Float.{nan}
use Rattle.region_axis.specs.Measures.{corner_fits, side_fits}
use Rattle.region.specs.Regions.{inside}
use Rattle.region.specs.Measures.{bounds_fit, picture_fits}
use Rattle.planes_layout.specs.Outcome.{layout_of}
use Rattle.frame.specs.Sizes.{sizes_of}
use Rattle.sigma_grids.specs.Table.{bad_grid, cells, grid_start, grid_lacks_block, some_below}
use Rattle.sigma_groups.specs.Held.{not_held, some_not_held}
use Rattle.frame.specs.Outcome.{bad_sides, bad_settings}
use Rattle.sigma_groups.specs.Outcome.{table_fits, grids_fit}
use Rattle.planes.specs.Samples.{b0}
use Rattle.run_passes.specs.Makers.{gabor_of, even_weights, no_settings, with_gabor, with_iters}
use Rattle.run_setup.specs.declared.Setup.{Setup}
use Rattle.run_setup.specs.Makers.{setup_with, with_planes}
use Rattle.run_setup.specs.Setup.{band_count}
use Rattle.run_outcomes.specs.Start.{Handed, picture_checks, start_checks, start_number}

-- an image of 8 × 8 samples in three planes whose filter region has the given left and width, with `preserve_outside` and Gabor's flag
abbrev flagged : ℕ → ℕ → ℤ → ℕ → ℕ → ℕ → Setup
flagged full enabled left width iters height =
    setup_with
    (record { left = pos 0; top = pos 0; width = 8; height = 8 })
    (record { left = left; top = pos 0; width = width; height = 8 })
    3 full
    (with_iters iters (with_gabor (gabor_of enabled (even_weights b0 b0)) no_settings))
    height

-- `preserve_outside` is 1, Gabor is off
abbrev setup : ℤ → ℕ → ℕ → ℕ → Setup
setup = flagged 1 0

-- in a frame of one group whose grid is missing, with the given lengths of the sets and of the block sigmas
abbrev handed : Setup → ℕ → ℕ → Handed
handed s set sigmas = record {
  setup = s;
  frame = record { width = 8; height = 8; upsampling = 1; lf_level = 0; group_size_shift = 0 };
  table = 0 ∷ 0 ∷ 0 ∷ [];
  grids = [];
  first = replicate set nan;
  second = replicate set nan;
  sigmas = replicate sigmas nan;
}

-- accepted: one block and one band, or eight bands; any corner if the EPF is off
accepted : (start_number (handed (setup (pos 0) 8 3 8) 192 1) ≡ 0) × (start_number (handed (setup (pos 0) 8 1 1) 192 1) ≡ 0) × (start_number (handed (setup (pos 4) 4 0 8) 192 0) ≡ 0)
unfolding start_checks picture_checks inside picture_fits bounds_fit corner_fits side_fits bad_sides bad_settings table_fits sizes_of some_below bad_grid grids_fit grid_start cells some_not_held not_held grid_lacks_block layout_of band_count
accepted = (refl, refl, refl)

-- 5: outside the image; and also too wide, or empty
placed : (start_number (handed (setup (pos 0) 9 3 8) 192 2) ≡ 5) × (start_number (handed (setup (pos 0) 16385 3 8) 192 2) ≡ 4) × (start_number (handed (setup (pos 0) 0 3 8) 192 0) ≡ 4)
unfolding start_checks picture_checks inside picture_fits bounds_fit corner_fits side_fits bad_sides bad_settings table_fits sizes_of some_below bad_grid grids_fit grid_start cells some_not_held not_held grid_lacks_block layout_of band_count
placed = (refl, refl, refl)

-- 6: a corner that is not a multiple of 8, though the sets are too short; if the iterations are out of range, it and the length of the
-- block sigmas are passed over
corner : (start_number (handed (setup (pos 4) 4 1 8) 191 1) ≡ 6) × (start_number (handed (setup (pos 4) 4 4 8) 191 7) ≡ 7) × (start_number (handed (setup (pos 4) 4 4 8) 192 7) ≡ 9)
unfolding start_checks picture_checks inside picture_fits bounds_fit corner_fits side_fits bad_sides bad_settings table_fits sizes_of some_below bad_grid grids_fit grid_start cells some_not_held not_held grid_lacks_block layout_of band_count
corner = (refl, refl, refl)

-- 7: block sigmas given though the EPF is off, and the band height is 0
lengths : (start_number (handed (setup (pos 0) 8 0 0) 192 1) ≡ 7) × (start_number (handed (setup (pos 0) 8 0 0) 192 0) ≡ 9)
unfolding start_checks picture_checks inside picture_fits bounds_fit corner_fits side_fits bad_sides bad_settings table_fits sizes_of some_below bad_grid grids_fit grid_start cells some_not_held not_held grid_lacks_block layout_of band_count
lengths = (refl, refl)

-- 9: a flag of 2, `preserve_outside` or Gabor's; 0 and 1 are in range, and a wrong length comes first
flags : (start_number (handed (flagged 2 0 (pos 0) 8 0 8) 192 0) ≡ 9) × (start_number (handed (flagged 0 2 (pos 0) 8 0 8) 192 0) ≡ 9) × (start_number (handed (flagged 0 1 (pos 0) 8 0 8) 192 0) ≡ 0) × (start_number (handed (flagged 2 2 (pos 0) 8 0 8) 191 0) ≡ 7)
unfolding start_checks picture_checks inside picture_fits bounds_fit corner_fits side_fits bad_sides bad_settings table_fits sizes_of some_below bad_grid grids_fit grid_start cells some_not_held not_held grid_lacks_block layout_of band_count
flags = (refl, refl, refl, refl)

-- one plane has a third of the samples; two planes are 9, whatever the lengths of the sets, but not of the block sigmas
planes : (start_number (handed (with_planes 1 (setup (pos 0) 8 3 8)) 64 1) ≡ 0) × (start_number (handed (with_planes 1 (setup (pos 0) 8 3 8)) 192 1) ≡ 7) × (start_number (handed (with_planes 2 (setup (pos 0) 8 3 8)) 128 1) ≡ 9) × (start_number (handed (with_planes 2 (setup (pos 0) 8 3 8)) 0 2) ≡ 7)
unfolding start_checks picture_checks inside picture_fits bounds_fit corner_fits side_fits bad_sides bad_settings table_fits sizes_of some_below bad_grid grids_fit grid_start cells some_not_held not_held grid_lacks_block layout_of band_count
planes = (refl, refl, refl, refl)
