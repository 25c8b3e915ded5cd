-- The setup of a run: which values are in range, and what follows from them (Specification 12.1, 12.4, 12.8). Definitions only.
use Rattle.std.specs.Prelude.{Bool, true, cond, ◌&&◌, List, ℕ, ◌+◌, ◌-◌, ◌*◌, ◌/◌, min, leb, ltb, length, Float}
use Rattle.refusals.specs.Flags.{flag_fits, flag_set}
use Rattle.region.specs.declared.Region.{Region}
use Rattle.region.specs.Regions.{inside}
use Rattle.region.specs.Measures.{area_fits, picture_fits}
use Rattle.planes.specs.declared.Layout.{Layout}
use Rattle.planes.specs.Band.{planes_fit, result_height}
use Rattle.planes_layout.specs.Outcome.{layout_of}
use Rattle.epf_tiles.specs.Blocks.{block_columns, sigma_of, block_rows}
use Rattle.region_placement.specs.Blocks.{clamp_to_zero, on_blocks}
use Rattle.run_passes.specs.Pass.{Area, Pass}
use Rattle.run_passes.specs.Plan.{gabor_fits, iterations_fit, plan}
use Rattle.run_setup.specs.declared.Setup.{Setup}

-- the largest number of bands of a pass (Specification 4.1), and the number of flags of a record
abbrev pub max_bands : ℕ
max_bands = 256

-- the result region is the image region; otherwise it is the filter region
abbrev pub full_planes : Setup → Bool
full_planes s = flag_set s.preserve_outside

-- where the filter region lies in the planes, and which region is the result's
abbrev pub layout : Setup → Layout
layout s = layout_of s.image s.filter (full_planes s)

-- the EPF is on: only the iterations decide
abbrev pub epf_on : Setup → Bool
epf_on s = ltb 0 s.settings.epf.iters

-- the passes over the planes of the setup, and their number
abbrev pub passes_of : Setup → List Pass
passes_of s = plan s.planes s.settings

abbrev pub pass_count : Setup → ℕ
pass_count s = length (passes_of s)

-- the filter region with its block sigmas, row of blocks by row of blocks
abbrev pub area : Setup → List Float → Area
area s sigmas = record { width = s.filter.width; height = s.filter.height; top = clamp_to_zero s.filter.top; sigma = sigma_of (block_columns (layout s)) sigmas }

-- ---- bands (Specification 12.4): rows of the result region; the last band may be shorter

abbrev pub row_count : Setup → ℕ
row_count s = result_height (layout s)

unfoldable pub band_count : Setup → ℕ
band_count s = (row_count s + s.band_height - 1) / s.band_height

-- band k has the rows from `band_from` up to `band_to`
abbrev pub band_from : Setup → ℕ → ℕ
band_from s k = k * s.band_height

abbrev pub band_to : Setup → ℕ → ℕ
band_to s k = min (band_from s k + s.band_height) (row_count s)

-- ---- setups that start would not refuse under 4, 5, 6 and 9

-- sides of 1 to 16,384 and an area of at most 16,777,216
unfoldable pub size_fits : Region → Bool
size_fits r = (leb r.width 16384 && leb r.height 16384) && area_fits r.width r.height

abbrev pub iters_fit : Setup → Bool
iters_fit s = iterations_fit s.settings

abbrev pub full_fits : Setup → Bool
full_fits s = flag_fits s.preserve_outside

-- the filter region starts at multiples of 8 if the EPF is on
abbrev pub blocks_fit : Setup → Bool
blocks_fit s = cond (epf_on s) (on_blocks s.filter) true

abbrev pub height_fits : Setup → Bool
height_fits s = leb 1 s.band_height && leb s.band_height 16384

abbrev pub count_fits : Setup → Bool
count_fits s = leb (band_count s) max_bands

-- the iterations, the number of planes, both flags, the band height and the number of bands are in range
unfoldable pub numbers_fit : Setup → Bool
numbers_fit s = iters_fit s && (planes_fit s.planes && (full_fits s && (gabor_fits s.settings && (height_fits s && count_fits s))))

unfoldable pub setup_fits : Setup → Bool
setup_fits s = ((picture_fits s.image && picture_fits s.filter) && (inside s.image s.filter && blocks_fit s)) && numbers_fit s

-- ---- lengths of the slices

-- a set: the image region's samples, plane by plane
abbrev pub set_length : Setup → ℕ
set_length s = s.planes * s.image.height * s.image.width

-- one sigma per block of the filter region, none if the EPF is off
abbrev pub sigma_length : Setup → ℕ
sigma_length s = cond (epf_on s) (block_rows (layout s) * block_columns (layout s)) 0

-- the result region
abbrev pub result_region : Setup → Region
result_region s = cond (full_planes s) s.image s.filter

abbrev pub result_length : Setup → ℕ
result_length s = s.planes * (result_region s).height * (result_region s).width
