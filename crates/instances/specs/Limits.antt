-- The limits of Specification 4.1: for each, the last accepted value and the first refused one. Each row is an equation in the definitions
-- that the contracts cite. Definitions only.
use Rattle.std.specs.Prelude.{◌≡◌, true, false, List, [], ◌∷◌, ◌++◌, ℕ, ℤ, pos, negsuc, length, get_or, replicate, Float}
use Rattle.refusals.specs.Checks.{Check, first_of}
use Rattle.header_bits.specs.Outcome.{accepted, refused}
use Rattle.header_bits.specs.Bits.{field, u}
use Rattle.region.specs.declared.Region.{Region}
use Rattle.region.specs.Regions.{zero_region}
use Rattle.region.specs.Answers.{given_checks}
use Rattle.region_arithmetic.specs.declared.RegionAnswer.{RegionAnswer}
use Rattle.region_arithmetic.specs.Answers.{downsample_outcome, aligned_outcome}
use Rattle.region_placement.specs.Placed.{placed_checks}
use Rattle.mirror.specs.Outcome.{mirror_outcome}
use Rattle.frame.specs.declared.Frame.{Frame}
use Rattle.frame.specs.Outcome.{frame_outcome, split_outcome}
use Rattle.sigma_groups.specs.declared.blocks.Blocks.{Blocks}
use Rattle.sigma_groups.specs.Measures.{bad_blocks}
use Rattle.sigma_groups.specs.Outcome.{sigma_checks}
use Rattle.sigma_grids.specs.Start.{start_outcome as grid_start_outcome}
use Rattle.sigma.specs.Outcome.{sigmas_outcome}
use Rattle.planes.specs.Samples.{b0, b1}
use Rattle.planes_layout.specs.Outcome.{pass_checks}
use Rattle.epf.specs.declared.EpfStep.{EpfStep}
use Rattle.epf.specs.Outcome.{epf_checks, epf_outcome}
use Rattle.run_passes.specs.declared.Settings.{Settings}
use Rattle.run_passes.specs.declared.MarginAnswer.{MarginAnswer}
use Rattle.run_passes.specs.Plan.{margin_outcome}
use Rattle.run_passes.specs.Makers.{gabor_of, with_gabor, with_iters}
use Rattle.run_setup.specs.declared.Setup.{Setup}
use Rattle.run_setup.specs.Makers.{with_planes, with_regions, with_full, with_settings, with_band_height}
use Rattle.run_record.specs.declared.Run.{Run}
use Rattle.run_record.specs.Record.{started, over_checks}
use Rattle.run_outcomes.specs.Start.{Handed, start_checks, start_outcome}
use Rattle.run_outcomes.specs.Band.{State, band_checks, band_outcome, advance_outcome}
use Rattle.run_outcomes.specs.Result.{result_checks, result_outcome}
use Rattle.loupe_region.specs.declared.LoupeSetup.{LoupeSetup}
use Rattle.loupe_region.specs.Outcome.{widened_checks, widened_outcome}
use Rattle.loupe.specs.Outcome.{LoupeHanded, loupe_checks, loupe_outcome}
use Rattle.cut_file.specs.declared.CutTable.{CutTable}
use Rattle.cut_file.specs.Read.{count_in, read_checks}
use Rattle.cut_file.specs.Write.{write_checks}
use Rattle.cut_read.specs.Outcome.{count_outcome}
use Rattle.cut_write.specs.Outcome.{length_outcome}
use Rattle.instances.specs.Instances.{begun}

-- a value that is accepted and one that is refused with k
abbrev pub Limit : {A : Type 0} → (A → ℕ) → A → A → ℕ → Type 0
Limit number fits past k = (number fits ≡ 0) × (number past ≡ k)

-- ---- the number of a call, as a function of the value

abbrev pub square : ℤ → ℕ → Region
square corner side = record { left = corner; top = corner; width = side; height = side }

abbrev pub side_number : ℕ → ℕ
side_number side = first_of (given_checks (square (pos 0) side))

abbrev pub corner_number : ℤ → ℕ
corner_number corner = first_of (given_checks (square corner 1))

-- a region at 0, 0 with these sides
abbrev pub sides : ℕ → ℕ → Region
sides w h = record { left = pos 0; top = pos 0; width = w; height = h }

-- an image region of this width and height that is also the filter region
abbrev pub picture_number : ℕ × ℕ → ℕ
picture_number s = first_of (placed_checks (sides s.0 s.1) (sides s.0 s.1))

abbrev pub frame_number : ℕ → ℕ → ℕ → ℕ → ℕ
frame_number side upsampling level shift =
    (frame_outcome (record { width = side; height = side; upsampling = upsampling; lf_level = level; group_size_shift = shift })).number

-- a setup: image and filter region, `preserve_outside`, Gabor's flag, iterations and band height
abbrev pub setup_with : Region → Region → ℕ → ℕ → ℕ → ℕ → Setup
setup_with image filter full gabor iters height =
    let s = begun.run.setup in
    let g = gabor_of gabor s.settings.gabor.weights in
    with_band_height height (with_settings (with_gabor g (with_iters iters s.settings)) (with_full full (with_regions image filter s)))

-- advance on a record of w × h samples with these iterations and this band height, as start returns it: 9, or 11 since no band is done
abbrev pub record_number : ℕ → ℕ → ℕ → ℕ → ℕ
record_number w h iters height = (advance_outcome (started (setup_with (sides w h) (sides w h) 1 0 iters height))).number

-- the same on a record of so many planes, one sample and no pass
abbrev pub planes_number : ℕ → ℕ
planes_number n = (advance_outcome (started (with_planes n (setup_with (sides 1 1) (sides 1 1) 1 1 0 1)))).number

-- ---- lengths that depend on the record: 7 if its sides are in range, otherwise 9

-- three planes of one sample
abbrev pub single : List Float
single = b0 ∷ b0 ∷ b0 ∷ []

-- a band with an image of w × h samples, both sets empty
abbrev pub sets_number : ℕ → ℕ → ℕ
sets_number w h = (band_outcome (record { run = started (setup_with (sides w h) (sides 1 1) 1 0 0 1); sigmas = []; first = []; second = [] }) 0).number

-- a band with a filter region of w × h samples, no block sigmas
abbrev pub no_sigmas_number : ℕ → ℕ → ℕ
no_sigmas_number w h = (band_outcome (record { run = started (setup_with (sides 1 1) (sides w h) 1 0 1 1); sigmas = []; first = single; second = single }) 0).number

-- the result of a filter region of w × h samples, with an empty slice
abbrev pub slice_number : ℕ → ℕ → ℕ
slice_number w h = (result_outcome (started (setup_with (sides 1 1) (sides w h) 0 0 0 1)) single single []).number

-- ---- an image of 16 × 8 samples, a filter region of 8 × 8 in it, and one group with a grid of one cell

abbrev pub eight_from : ℕ → Region
eight_from left = record { left = pos left; top = pos 0; width = 8; height = 8 }

abbrev pub planes_of : List Float
planes_of = replicate 384 b0

-- start, with the filter region's left, both flags and the group's presence
abbrev pub start_number : ℕ → ℕ → ℕ → ℕ → ℕ
start_number left full gabor presence =
    (start_outcome (record {
      setup = setup_with (sides 16 8) (eight_from left) full gabor 1 8;
      frame = record { width = 16; height = 8; upsampling = 1; lf_level = 0; group_size_shift = 0 };
      table = presence ∷ 1 ∷ 1 ∷ [];
      grids = b1 ∷ [];
      first = planes_of;
      second = planes_of;
      sigmas = b0 ∷ [];
    })).answer.number

-- a step, with its number, the filter region's left and `preserve_outside`
abbrev pub step_number : ℕ → ℕ → ℕ → ℕ
step_number step left full =
    (epf_outcome (sides 16 8) (eight_from left) 3 full (record { step = step; channel_scale = single; multiplier = b1; border_sad_mul = b1 }) (b1 ∷ []) 0 8 planes_of planes_of).number

-- block sigmas, with the block's column, whether the EPF is on, and the group's presence
abbrev pub sigmas_number : ℕ → ℕ → ℕ → ℕ
sigmas_number left on presence =
    (sigmas_outcome on (record { width = 16; height = 8; upsampling = 1; lf_level = 0; group_size_shift = 0 }) (record { left = left; top = 0; width = 8; height = 8 }) (presence ∷ 1 ∷ 1 ∷ []) (b1 ∷ []) b1 (b0 ∷ [])
    ).number

-- ---- cut files

-- the length of the file of the first n of these regions, then regions of one position, with a number of planes
abbrev pub cut_number : ℕ → ℕ → List Region → ℕ
cut_number planes n rs = (length_outcome (record { count = n; regions = rs ++ replicate 64 (sides 1 1) }) planes).number

-- ---- the margin, with Gabor's flag and the iterations

abbrev pub settings_of : ℕ → ℕ → Settings
settings_of gabor iters = (setup_with (sides 1 1) (sides 1 1) 1 gabor iters 1).settings

abbrev pub margin_of : ℕ → ℕ → MarginAnswer
margin_of gabor iters = margin_outcome (settings_of gabor iters)

-- ---- the loupe, with Gabor on and three iterations: a margin of 7

abbrev pub widened_of : Region → Region → RegionAnswer
widened_of whole wanted = widened_outcome (record { whole = whole; wanted = wanted; planes = 3; settings = settings_of 1 3 })

-- two positions of the top row
abbrev pub two_from : ℕ → Region
two_from left = record { left = pos left; top = pos 0; width = 2; height = 1 }

-- the loupe on a whole of 16 × 8 samples in one group with a grid of one cell: the left of two wanted positions, Gabor's flag, the iterations, and
-- the lengths of each set, of the block sigmas and of the result slice
abbrev pub loupe_number : ℕ → ℕ → ℕ → ℕ → ℕ → ℕ → ℕ
loupe_number left gabor iters set sigmas out =
    (loupe_outcome (record {
      setup = record { whole = sides 16 8; wanted = two_from left; planes = 3; settings = settings_of gabor iters };
      frame = record { width = 16; height = 8; upsampling = 1; lf_level = 0; group_size_shift = 0 };
      table = 1 ∷ 1 ∷ 1 ∷ [];
      grids = b1 ∷ [];
      first = replicate set b0;
      second = replicate set b0;
      sigmas = replicate sigmas b0;
      out = replicate out b0;
    })).number

-- the sample width of a frame 1,000 wide at an LF level
abbrev pub columns_at : ℕ → ℕ
columns_at level = (frame_outcome (record { width = 1000; height = 1; upsampling = 1; lf_level = level; group_size_shift = 0 })).sizes.sample_width

-- ---- the numbers of a table of checks, in its order

unfoldable pub numbers_of : List Check → List ℕ
numbers_of [] = []
numbers_of (c ∷ cs) = c.number ∷ numbers_of cs

-- ---- the table

pub record Limits : Type 0 where
  -- region arithmetic: sides to 16,384, left and top −1,048,576 to 1,048,576
  pub region_side : Limit side_number 16384 16385 4
  pub region_right : Limit corner_number (pos 1048576) (pos 1048577) 4
  pub region_left : Limit corner_number (negsuc 1048575) (negsuc 1048576) 4
  -- downsampling factors to 16, alignments to 8,192
  pub factor : Limit (λ f. (downsample_outcome (square (pos 0) 1) f).number) 16 17 9
  pub alignment : Limit (λ d. (aligned_outcome (square (pos 0) 1) d).number) 8192 16384 9
  -- image and filter regions: sides from 1, area to 16,777,216; the next area that two sides in range have is 16,777,219 = 1,549 × 10,831
  pub picture_side : Limit picture_number (1, 1) (0, 1) 4
  pub picture_area : Limit picture_number (4096, 4096) (1549, 10831) 4
  -- headers: 65,536 bytes, of which one bit is read
  pub header_most : (s : List ℕ) → length s ≡ 65536 → u 1 s 0 ≡ accepted (field s 0 1) 1
  pub header_past : (s : List ℕ) → length s ≡ 65537 → u 1 s 0 ≡ refused 7
  -- mirror: lengths 1 to 16,384, offsets −1,048,576 to 1,048,576
  pub mirror_least : Limit (λ n. (mirror_outcome (pos 0) n).number) 1 0 9
  pub mirror_length : Limit (λ n. (mirror_outcome (pos 0) n).number) 16384 16385 9
  pub mirror_over : Limit (λ z. (mirror_outcome z 1).number) (pos 1048576) (pos 1048577) 9
  pub mirror_under : Limit (λ z. (mirror_outcome z 1).number) (negsuc 1048575) (negsuc 1048576) 9
  -- frames: sides 1 to 16,384, upsampling 1, 2, 4, 8, LF level to 4, group size shift to 3
  pub frame_side : Limit (λ n. frame_number n 1 0 0) 16384 16385 4
  pub frame_least : Limit (λ n. frame_number n 1 0 0) 1 0 4
  pub upsampling_most : Limit (λ n. frame_number 1 n 0 0) 8 16 9
  pub upsampling_other : Limit (λ n. frame_number 1 n 0 0) 4 3 9
  pub lf_level_of : Limit (λ n. frame_number 1 1 n 0) 4 5 9
  pub group_shift_of : Limit (λ n. frame_number 1 1 0 n) 3 4 9
  pub split_shift : Limit (λ n. (split_outcome 0 n).number) 3 4 9
  -- grids: sides 1 to 1,024
  pub grid_side : Limit (λ n. (grid_start_outcome (1 ∷ n ∷ n ∷ []) 1).number) 1024 1025 4
  pub grid_least : Limit (λ n. (grid_start_outcome (1 ∷ n ∷ n ∷ []) 1).number) 1 0 4
  -- block sigmas: sides to 16,384, area to 16,777,216, left and top to 131,072 blocks
  pub block_side : (bad_blocks (record { left = 0; top = 0; width = 16384; height = 1 }) ≡ false) × (bad_blocks (record { left = 0; top = 0; width = 16385; height = 1 }) ≡ true)
  pub block_area : (bad_blocks (record { left = 0; top = 0; width = 4096; height = 4096 }) ≡ false) × (bad_blocks (record { left = 0; top = 0; width = 1549; height = 10831 }) ≡ true)
  pub block_left : (bad_blocks (record { left = 131072; top = 131072; width = 1; height = 1 }) ≡ false) × (bad_blocks (record { left = 131073; top = 0; width = 1; height = 1 }) ≡ true)
  -- records: sides and area as above, iterations to 3, band heights 1 to 16,384, bands to 256
  pub record_side : (record_number 16384 1 1 1 ≡ 11) × (record_number 16385 1 1 1 ≡ 9)
  pub record_area : (record_number 4096 4096 1 64 ≡ 11) × (record_number 1549 10831 1 64 ≡ 9)
  -- planes: one or three
  pub planes_one : (planes_number 1 ≡ 11) × (planes_number 0 ≡ 9) × (planes_number 2 ≡ 9)
  pub planes_three : (planes_number 3 ≡ 11) × (planes_number 4 ≡ 9)
  pub iterations : (record_number 1 1 3 1 ≡ 11) × (record_number 1 1 4 1 ≡ 9)
  pub band_height_of : (record_number 1 1 1 16384 ≡ 11) × (record_number 1 1 1 16385 ≡ 9)
  pub band_least : (record_number 1 1 1 1 ≡ 11) × (record_number 1 1 1 0 ≡ 9)
  pub band_most : (record_number 1 256 1 1 ≡ 11) × (record_number 1 257 1 1 ≡ 9)
  -- lengths: a side of 16,384 and of 16,385, of the image region for the sets, of the filter region for the block sigmas and the result's
  -- slice
  pub sets_wide : (sets_number 16384 1 ≡ 7) × (sets_number 16385 1 ≡ 9)
  pub sets_high : (sets_number 1 16384 ≡ 7) × (sets_number 1 16385 ≡ 9)
  pub sets_area : (sets_number 4096 4096 ≡ 7) × (sets_number 1549 10831 ≡ 9)
  pub sigmas_wide : (no_sigmas_number 16384 1 ≡ 7) × (no_sigmas_number 16385 1 ≡ 9)
  pub sigmas_high : (no_sigmas_number 1 16384 ≡ 7) × (no_sigmas_number 1 16385 ≡ 9)
  pub slice_wide : (slice_number 16384 1 ≡ 7) × (slice_number 16385 1 ≡ 9)
  pub slice_high : (slice_number 1 16384 ≡ 7) × (slice_number 1 16385 ≡ 9)
  -- start: 5 outside the image region, 6 if not on blocks, 8 if the grid lacks the block, 9 for a flag or a presence of 2
  pub start_inside : Limit (λ l. start_number l 1 0 1) 0 16 5
  pub start_on_blocks : Limit (λ l. start_number l 1 0 1) 0 4 6
  pub start_held : Limit (λ l. start_number l 1 0 1) 0 8 8
  pub start_full : Limit (λ f. start_number 0 f 0 1) 1 2 9
  pub start_gabor : Limit (λ g. start_number 0 1 g 1) 1 2 9
  pub start_presence : Limit (λ p. start_number 0 1 0 p) 1 2 9
  -- a step: numbers to 2; 5, 6 and 9 as for start
  pub step_most : Limit (λ k. step_number k 0 1) 2 3 9
  pub step_inside : Limit (λ l. step_number 0 l 1) 8 16 5
  pub step_on_blocks : Limit (λ l. step_number 0 l 1) 8 4 6
  pub step_full : Limit (λ f. step_number 0 0 f) 1 2 9
  -- block sigmas: 8 and 9 as for start
  pub sigmas_held : Limit (λ l. sigmas_number l 1 1) 0 1 8
  pub sigmas_on : Limit (λ on. sigmas_number 0 on 1) 1 2 9
  pub sigmas_presence : Limit (λ p. sigmas_number 0 1 p) 1 2 9
  -- margins: 0, 2, 3 or 6 for 0 to 3 iterations, plus 1 with the Gabor-like filter
  pub margins : ((margin_of 0 0).margin ≡ 0) × ((margin_of 0 1).margin ≡ 2) × ((margin_of 0 2).margin ≡ 3) × ((margin_of 0 3).margin ≡ 6)
  pub margins_gabor : ((margin_of 1 0).margin ≡ 1) × ((margin_of 1 1).margin ≡ 3) × ((margin_of 1 2).margin ≡ 4) × ((margin_of 1 3).margin ≡ 7)
  pub margin_iterations : Limit (λ i. (margin_of 0 i).number) 3 4 9
  pub margin_gabor : Limit (λ g. (margin_of g 0).number) 1 2 9
  -- the loupe: 15 if the wanted rectangle ends a column past the whole, lies beside it or is empty
  pub wanted_inside : Limit (λ l. (widened_of (eight_from 0) (two_from l)).number) 6 7 15
  pub wanted_beside : Limit (λ l. (widened_of (eight_from 8) (two_from l)).number) 8 6 15
  pub wanted_empty : Limit (λ w. (widened_of (eight_from 0) (sides w 1)).number) 1 0 15
  -- 4 for the whole; 4 before 15, for either region
  pub whole_side : Limit (λ w. (widened_of (sides w 1) (sides 1 1)).number) 16384 16385 4
  pub limits_first : ((widened_of (sides 16385 1) (two_from 16385)).number ≡ 4) × ((widened_of (eight_from 0) (sides 1549 10831)).number ≡ 4)
  -- 6 for the whole; 15 before 6
  pub whole_on_blocks : Limit (λ l. (widened_of (eight_from l) (two_from 8)).number) 8 4 6
  pub wanted_first : (widened_of (eight_from 4) (two_from 3)).number ≡ 15
  -- columns 11 to 17 of 8 to 107, rows 30 to 74 of 0 to 79: left 4 is moved down to 0 and clipped to 8, right 24 stays; top 23 is moved down to
  -- 16, bottom 81 is clipped to 79
  pub widened_edges : widened_of (record { left = pos 8; top = pos 0; width = 100; height = 80 }) (record { left = pos 11; top = pos 30; width = 7; height = 45 })
      ≡ record { number = 0; region = record { left = pos 8; top = pos 16; width = 17; height = 64 } }
  -- zeros beside a refusal; with Gabor alone, a left of −1,048,577 before the intersection is not refused
  pub widened_refused : widened_of (eight_from 0) (two_from 7) ≡ record { number = 15; region = zero_region }
  pub widened_past : (widened_outcome (record { whole = square (negsuc 1048575) 8; wanted = square (negsuc 1048575) 1; planes = 3; settings = settings_of 1 0 })).number ≡ 0
  -- with one iteration columns 0 and 1 need 4 × 3 samples in one block, columns 6 and 7 need 10 × 3 in two, of which the grid has one. Each check
  -- is hidden only by the settings that it is computed from.
  pub loupe_sets : (loupe_number 0 0 1 36 1 6 ≡ 0) × (loupe_number 0 0 1 35 1 6 ≡ 7) × (loupe_number 0 0 4 35 1 6 ≡ 9) × (loupe_number 0 2 1 35 1 6 ≡ 9)
  pub loupe_sigmas : (loupe_number 0 0 1 36 2 6 ≡ 7) × (loupe_number 0 0 4 36 2 6 ≡ 9) × (loupe_number 0 2 1 36 2 6 ≡ 9) × (loupe_number 0 2 0 36 1 6 ≡ 7) × (loupe_number 0 2 0 36 0 6 ≡ 9)
  pub loupe_slice : (loupe_number 0 0 1 36 1 5 ≡ 7) × (loupe_number 0 0 4 36 1 5 ≡ 7) × (loupe_number 0 2 1 36 1 5 ≡ 7)
  pub loupe_held : (loupe_number 6 0 1 90 2 6 ≡ 8) × (loupe_number 6 0 4 90 2 6 ≡ 9) × (loupe_number 6 2 1 90 2 6 ≡ 9)
  -- cut files: 16,777,216 bytes, of which the first is wrong; 1 to 64 rectangles; the longest file of three planes and of one, and one of four
  -- bytes more; 1 and 3 planes
  pub cut_bytes_most : (s : List ℕ) → length s ≡ 16777216 → get_or s 0 0 ≡ 0 → (count_outcome s).number ≡ 12
  pub cut_bytes_past : (s : List ℕ) → length s ≡ 16777217 → (count_outcome s).number ≡ 7
  pub cut_least : Limit (λ n. cut_number 3 n []) 1 0 12
  pub cut_most : Limit (λ n. cut_number 3 n []) 64 65 12
  pub cut_longest : Limit (cut_number 3 3) (sides 1024 1365 ∷ sides 335 1 ∷ []) (sides 1024 1365 ∷ sides 336 1 ∷ []) 7
  pub cut_grey_longest : Limit (cut_number 1 2) (sides 4096 1023 ∷ sides 4086 1 ∷ []) (sides 4096 1023 ∷ sides 4087 1 ∷ []) 7
  pub cut_planes : (cut_number 0 1 [] ≡ 9) × (cut_number 1 1 [] ≡ 0) × (cut_number 2 1 [] ≡ 9) × (cut_number 3 1 [] ≡ 0) × (cut_number 4 1 [] ≡ 9)
  -- an LF level divides sides by 8: 1,000, 125 and 16 samples
  pub levels : (columns_at 0 ≡ 1000) × (columns_at 1 ≡ 125) × (columns_at 2 ≡ 16)
  -- the numbers of the tables, in their order: where more than one check applies, the number of the first is returned (Specification 3.2)
  pub start_numbers : (h : Handed) → numbers_of (start_checks h) ≡ 4 ∷ 4 ∷ 4 ∷ 5 ∷ 6 ∷ 7 ∷ 7 ∷ 7 ∷ 7 ∷ 8 ∷ 9 ∷ 9 ∷ 9 ∷ 9 ∷ 9 ∷ 9 ∷ 9 ∷ 9 ∷ []
  pub band_numbers : (t : State) (k : ℕ) → numbers_of (band_checks t k) ≡ 7 ∷ 7 ∷ 9 ∷ 10 ∷ []
  pub advance_numbers : (r : Run) → numbers_of (over_checks r) ≡ 9 ∷ 11 ∷ []
  pub result_numbers : (r : Run) (first second out : List Float) → numbers_of (result_checks r first second out) ≡ 7 ∷ 7 ∷ 9 ∷ 11 ∷ []
  pub sigma_numbers : (on : ℕ) (f : Frame) (b : Blocks) (t : List ℕ) (grids : List Float) (n : ℕ)
      → numbers_of (sigma_checks on f b t grids n) ≡ 4 ∷ 4 ∷ 4 ∷ 7 ∷ 7 ∷ 7 ∷ 8 ∷ 9 ∷ 9 ∷ 9 ∷ []
  pub pass_numbers : (image filter : Region) (n full from to : ℕ) (src dst : List Float) → numbers_of (pass_checks image filter n full from to src dst) ≡ 4 ∷ 5 ∷ 7 ∷ 9 ∷ 9 ∷ 9 ∷ []
  pub epf_numbers : (image filter : Region) (n full : ℕ) (s : EpfStep) (sigmas : List Float) (from to : ℕ) (src dst : List Float)
      → numbers_of (epf_checks image filter n full s sigmas from to src dst) ≡ 4 ∷ 5 ∷ 6 ∷ 7 ∷ 7 ∷ 9 ∷ 9 ∷ 9 ∷ 9 ∷ []
  pub widened_numbers : (s : LoupeSetup) → numbers_of (widened_checks s) ≡ 4 ∷ 15 ∷ 6 ∷ 9 ∷ 9 ∷ 9 ∷ []
  pub loupe_numbers : (h : LoupeHanded) → numbers_of (loupe_checks h) ≡ 4 ∷ 4 ∷ 4 ∷ 15 ∷ 6 ∷ 7 ∷ 7 ∷ 7 ∷ 7 ∷ 7 ∷ 8 ∷ 9 ∷ 9 ∷ 9 ∷ 9 ∷ 9 ∷ []
  pub read_numbers : (s : List ℕ) (k n : ℕ) → count_in s ≡ 1 → numbers_of (read_checks s k n) ≡ 7 ∷ 14 ∷ 12 ∷ 14 ∷ 12 ∷ 14 ∷ 13 ∷ 14 ∷ 9 ∷ 7 ∷ []
  pub write_numbers : (planes : ℕ) (t : CutTable) (samples file : ℕ) → numbers_of (write_checks planes t samples file) ≡ 12 ∷ 4 ∷ 7 ∷ 7 ∷ 7 ∷ 7 ∷ 9 ∷ []
