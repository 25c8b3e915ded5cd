-- The instances of Specification 14 in one table, and others that tell similar programs apart (Specification 14.11). Each row is an
-- equation in the definitions that the contracts cite. Definitions only.
use Rattle.std.specs.Prelude.{◌≡◌, false, cond, List, [], ◌∷◌, ℕ, zero, suc, ◌+◌, ◌*◌, ◌/◌, ◌%◌, ◌^◌, eqb, pos, negsuc, length, get_or, Float}
use Rattle.std.specs.Float.{nan}
use Rattle.mirror.specs.declared.MirrorAnswer.{MirrorAnswer}
use Rattle.mirror.specs.Outcome.{mirror_outcome}
use Rattle.region.specs.declared.Region.{Region}
use Rattle.region_arithmetic.specs.Answers.{downsample_outcome, aligned_outcome}
use Rattle.header_bits.specs.Outcome.{Outcome, accepted, refused}
use Rattle.header_half.specs.Half.{f16}
use Rattle.header_gabor.specs.declared.Gabor.{Gabor}
use Rattle.header_gabor.specs.Gabor.{gabor_off, gabor_with, gabor_at}
use Rattle.planes.specs.Samples.{bits, b0, b1, b2, b3, b4}
use Rattle.planes.specs.Picture.{Picture, Around, around}
use Rattle.planes.specs.Sets.{of, set_of, tab}
use Rattle.gabor_kernel.specs.Gabor.{gabor_pass}
use Rattle.epf_step.specs.Steps.{kernel, dists, scaled, copied, standard_limit, epf, multiplier, EpfPass, epf_pass}
use Rattle.sigma.specs.Sigma.{block_sigmas}
use Rattle.run_passes.specs.declared.GaborSettings.{GaborSettings}
use Rattle.run_passes.specs.declared.Settings.{Settings}
use Rattle.run_passes.specs.Plan.{one_if}
use Rattle.run_passes.specs.Makers.{gabor_of, epf_sigma_of, epf_of, no_settings, with_gabor, with_epf}
use Rattle.run_setup.specs.declared.Setup.{Setup}
use Rattle.run_setup.specs.Makers.{setup_with}
use Rattle.run_record.specs.Record.{started}
use Rattle.run_outcomes.specs.Band.{State, band_outcome, advance_outcome}
use Rattle.instances.specs.Any.{one_quarter, CopiedBelow, NanSigma}

-- ---- numbers that the rows use

-- 1/2
abbrev one_half : Float
one_half = bits 0x3f00_0000

-- 6.0, 8.0, 12.0 and 16.0
abbrev b6 : Float
b6 = bits 0x40c0_0000

abbrev b8 : Float
b8 = bits 0x4100_0000

abbrev b12 : Float
b12 = bits 0x4140_0000

abbrev b16 : Float
b16 = bits 0x4180_0000

-- −0.0 and infinity
abbrev minus_zero : Float
minus_zero = bits 0x8000_0000

abbrev infinity : Float
infinity = bits 0x7f80_0000

-- 2^-24
abbrev tiny : Float
tiny = bits 0x3380_0000

-- ---- mirror and regions

abbrev pub index_of : ℕ → MirrorAnswer
index_of p = record { number = 0; index = p }

-- left and top −3, sides 5
abbrev pub square : Region
square = record { left = negsuc 2; top = negsuc 2; width = 5; height = 5 }

-- ---- headers

-- a number as n bytes, least significant bit first
unfoldable pub bytes_of : ℕ → ℕ → List ℕ
bytes_of zero n = []
bytes_of (suc k) n = n % 256 ∷ bytes_of k (n / 256)

-- a half read from a header of two bytes
abbrev pub half : ℕ → Outcome Float
half h = f16 (bytes_of 2 h) 0

-- an accepted half, by the bits of its binary32 value
abbrev pub single : ℕ → Outcome Float
single b = accepted (bits b) 16

-- a header of 98 bits: enabled, custom weights, and the same two halves for each channel
abbrev pub custom_header : ℕ → ℕ → List ℕ
custom_header w0 w1 = bytes_of 13 (3 + 4 * ((w0 + w1 * 2 ^ 16) * (1 + 2 ^ 32 + 2 ^ 64)))

abbrev pub evenly : Float → Float → Gabor
evenly w0 w1 = gabor_with (w0 ∷ w1 ∷ []) (w0 ∷ w1 ∷ []) (w0 ∷ w1 ∷ [])

-- ---- the Gabor-like filter over one plane of w columns and h rows

abbrev pub smoothed_by : Float → Float → ℕ → ℕ → List Float → List Float
smoothed_by w0 w1 w h s = set_of 1 w h (gabor_pass ((w0 ∷ w1 ∷ []) ∷ []) w h (of w h s))

-- with weights 1/2 and 1/4
abbrev pub smoothed : ℕ → ℕ → List Float → List Float
smoothed w h s = smoothed_by one_half one_quarter w h s

-- ---- steps of the EPF over one plane of w columns and h rows, top 0

-- M at nine columns of a row; the step's scale is 2 and the border multiplier 3
abbrev at : ℕ → ℕ → Float
at row col = multiplier b2 b3 row col

abbrev pub across : ℕ → List Float
across row = at row 0 ∷ at row 1 ∷ at row 2 ∷ at row 3 ∷ at row 4 ∷ at row 5 ∷ at row 6 ∷ at row 7 ∷ at row 8 ∷ []

abbrev pub everywhere : List Float
everywhere = b6 ∷ b6 ∷ b6 ∷ b6 ∷ b6 ∷ b6 ∷ b6 ∷ b6 ∷ b6 ∷ []

abbrev pub at_columns : List Float
at_columns = b6 ∷ b2 ∷ b2 ∷ b2 ∷ b2 ∷ b2 ∷ b2 ∷ b6 ∷ b6 ∷ []

-- a step with scales of 1 and a border multiplier
abbrev plain : ℕ → Float → EpfPass
plain step border_mul = record { step = step; limit = standard_limit; scales = scaled 1 (b1 ∷ []); multiplier = b1; border_mul = border_mul }

-- the step with one sigma for all blocks
abbrev pub stepped : ℕ → Float → ℕ → ℕ → List Float → List Float
stepped step sigma w h s = set_of 1 w h (epf_pass (plain step b1) w h 0 (λ _ _. sigma) (of w h s))

abbrev pub EachStep : (ℕ → Type 0) → Type 0
EachStep P = P 0 × P 1 × P 2

-- ---- steps 0 and 1, each with either order of sums, sigma 2

-- 0 0 / 2^-24 1
abbrev pub two_by_two : Picture
two_by_two = of 2 2 (b0 ∷ b0 ∷ tiny ∷ b1 ∷ [])

-- 0 / 0 / 0 / 2^-24 / 1
abbrev pub one_by_five : Picture
one_by_five = of 1 5 (b0 ∷ b0 ∷ b0 ∷ tiny ∷ b1 ∷ [])

-- a step's sample at column 0 and row 0 of the first picture, and at row 2 of the second
abbrev pub corner : ℕ → Float
corner step = epf_pass (plain step b1) 2 2 0 (λ _ _. b2) two_by_two 0 0 0

abbrev pub middle : ℕ → Float
middle step = epf_pass (plain step b1) 1 5 0 (λ _ _. b2) one_by_five 0 0 2

-- the same with the differences summed in the order of step `order`
abbrev summed_as : ℕ → ℕ → Around → Float
summed_as order step v = epf (scaled 1 (b1 ∷ [])) (kernel step) (dists order) b2 b1 standard_limit v 0

abbrev pub corner_as : ℕ → ℕ → Float
corner_as order step = summed_as order step (around 2 2 two_by_two 0 0)

abbrev pub middle_as : ℕ → ℕ → Float
middle_as order step = summed_as order step (around 1 5 one_by_five 0 2)

-- ---- runs over three planes of w columns and h rows; the filter region is the image region

-- settings from a header bundle
abbrev settings_from : Gabor → GaborSettings
settings_from g = gabor_of (one_if g.enabled) g.weights

abbrev setup_of : ℕ → ℕ → Gabor → ℕ → ℕ → Setup
setup_of w h gabor iters band_height_of =
    let r : Region = record { left = pos 0; top = pos 0; width = w; height = h } in
    setup_with r r 3 1 (with_gabor (settings_from gabor) (with_epf (epf_of iters (b1 ∷ b0 ∷ b0 ∷ []) (epf_sigma_of b0 b0 b0 b2) b16) no_settings)) band_height_of

-- 1 in column 0 and 0 in the others
abbrev stripes : Picture
stripes = λ c x y. cond (eqb x 0) b1 b0

-- step 1 alone over 2 × 24 samples in bands of 20 rows, the sigma of each block 16: the state after start
abbrev pub begun : State
begun = record { run = started (setup_of 2 24 gabor_off 1 20); sigmas = b16 ∷ b16 ∷ b16 ∷ []; first = set_of 3 2 24 stripes; second = set_of 3 2 24 (λ c x y. b0) }

-- after band 0
abbrev pub band_zero : State
band_zero = (band_outcome begun 0).state

-- column 1 of rows 20 to 23 after band 1 alone
abbrev pub last_rows : List Float
last_rows = tab 4 (λ y. of 2 24 (band_outcome begun 1).state.second 0 1 (20 + y))

-- the same if rows were counted from the band's first row
abbrev pub last_rows_from_band : List Float
last_rows_from_band = tab 4 (λ y. epf_pass (plain 1 b2) 2 4 0 (λ _ _. b16) stripes 0 1 y)

-- Gabor alone over the column 0 16 in bands of one row: the state after start
abbrev column : State
column = record { run = started (setup_of 1 2 (evenly one_half one_quarter) 0 1); sigmas = []; first = set_of 3 1 2 (λ c x y. cond (eqb y 0) b0 b16); second = set_of 3 1 2 (λ c x y. b0) }

-- row 1 after band 1 alone
abbrev pub last_sample : Float
last_sample = of 1 2 (band_outcome column 1).state.second 0 0 1

-- ---- grey: one plane of w samples in a row, in one band; the weights and scales of the other two channels are NaN

abbrev first_only : Float → Float → List (List Float)
first_only side diagonal = (side ∷ diagonal ∷ []) ∷ (nan ∷ nan ∷ []) ∷ (nan ∷ nan ∷ []) ∷ []

abbrev grey_of : ℕ → Settings → List Float → State
grey_of w settings s =
    let r : Region = record { left = pos 0; top = pos 0; width = w; height = 1 } in
    record { run = started (setup_with r r 1 1 settings 1); sigmas = cond (eqb settings.epf.iters 0) [] (b2 ∷ []); first = s; second = set_of 1 w 1 (λ c x y. b0) }

-- the plane after Gabor, with weights 1/2 and 1/4
abbrev pub grey_blurred : List Float → List Float
grey_blurred s = (band_outcome (grey_of (length s) (with_gabor (gabor_of 1 (first_only one_half one_quarter)) no_settings) s) 0).state.second

-- and after step 1, with sigma 2 and scale 1
abbrev pub grey_stepped : List Float → List Float
grey_stepped s =
    (band_outcome (grey_of (length s) (with_epf (epf_of 1 (b1 ∷ nan ∷ nan ∷ []) (epf_sigma_of b0 b0 b0 b1) b0) no_settings) s) 0).state.second

-- ---- one group across and two down, each of 128 × 128 blocks; the upper one has a grid of one column, the lower one has none

-- the sigma of block row y of the frame
abbrev pub block_row : List Float → Float → ℕ → Float
block_row grids modular y =
    get_or
    (block_sigmas
    (record { width = 8; height = 1040; upsampling = 1; lf_level = 0; group_size_shift = 0 })
    (record { left = 0; top = 0; width = 8; height = 1040 })
    (1 ∷ 1 ∷ 128 ∷ 0 ∷ 0 ∷ 0 ∷ [])
    grids
    modular)
    y
    nan

-- ---- the table

pub record Table : Type 0 where
  -- ★ mirror: −1 among 1 is 0; −3 among 2 is 1; 5 among 4 is 2; 7 among 3 is 1
  pub mirror_of_one : mirror_outcome (negsuc 0) 1 ≡ index_of 0
  pub mirror_of_two : mirror_outcome (negsuc 2) 2 ≡ index_of 1
  pub mirror_of_four : mirror_outcome (pos 5) 4 ≡ index_of 2
  pub mirror_of_three : mirror_outcome (pos 7) 3 ≡ index_of 1
  -- ★ border multiplier: all of rows 7 and 8; in rows 6 and 9 only the columns that are 0 or 7 modulo 8
  pub border_six : across 6 ≡ at_columns
  pub border_seven : across 7 ≡ everywhere
  pub border_eight : across 8 ≡ everywhere
  pub border_nine : across 9 ≡ at_columns
  -- ★ halves: 0001 to 33800000, 03FF to 387FC000, 7BFF to 477FE000, 8000 to 80000000, 7C00 to refusal 2
  pub half_least : half 0x0001 ≡ single 0x3380_0000
  pub half_subnormal : half 0x03ff ≡ single 0x387f_c000
  pub half_greatest : half 0x7bff ≡ single 0x477f_e000
  pub half_minus_zero : half 0x8000 ≡ single 0x8000_0000
  pub half_infinite : half 0x7c00 ≡ refused 2
  -- ★ weights −1/8, −1/8: refusal 3; 1/4, 0: accepted
  pub weights_refused : gabor_at (custom_header 0xb000 0xb000) 0 ≡ refused 3
  pub weights_accepted : gabor_at (custom_header 0x3400 0x0000) 0 ≡ accepted (evenly one_quarter b0) 98
  -- ★ left −3, width 5: downsample 1 gives −2, 3; aligned to 8 gives −8, 16
  pub downsampled : downsample_outcome square 1 ≡ record { number = 0; region = record { left = negsuc 1; top = negsuc 1; width = 3; height = 3 } }
  pub aligned : aligned_outcome square 8 ≡ record { number = 0; region = record { left = negsuc 7; top = negsuc 7; width = 16; height = 16 } }
  -- ★ weights 1/2, 1/4 on 0 0 0 / 0 16 0 / 0 0 0: 1 2 1 / 2 4 2 / 1 2 1; on the single row 0 16 0: 4 8 4
  pub impulse : smoothed 3 3 (b0 ∷ b0 ∷ b0 ∷ b0 ∷ b16 ∷ b0 ∷ b0 ∷ b0 ∷ b0 ∷ []) ≡ b1 ∷ b2 ∷ b1 ∷ b2 ∷ b4 ∷ b2 ∷ b1 ∷ b2 ∷ b1 ∷ []
  pub single_row : smoothed 3 1 (b0 ∷ b16 ∷ b0 ∷ []) ≡ b4 ∷ b8 ∷ b4 ∷ []
  -- a flat single row stays as it is, at its ends too; an end adds w0 + 2 × w1 to the centre's weight
  pub single_row_flat : smoothed 3 1 (b16 ∷ b16 ∷ b16 ∷ []) ≡ b16 ∷ b16 ∷ b16 ∷ []
  pub single_row_end : smoothed 3 1 (b16 ∷ b0 ∷ b0 ∷ []) ≡ b12 ∷ b4 ∷ b0 ∷ []
  -- weights 2^-24 and 0: 1 + 2 × w0 is rounded once; with w0 added twice it would be 1, and the sample 3F7FFFFC
  pub single_row_rounded : get_or (smoothed_by tiny b0 3 1 (b0 ∷ b1 ∷ b0 ∷ [])) 1 nan ≡ bits 0x3f7f_fffe
  -- ★ step 2, one block sigma 0.25: copied; sigma NaN, finite samples, centre 5: 5
  pub copied_below : CopiedBelow
  pub nan_sigma : NanSigma
  -- group row 0 has grids, row 1 has none: block row 127 has its cell, block row 128 has `sigma_for_modular`
  pub missing_grid : (grids : List Float) (modular : Float) → (block_row grids modular 127 ≡ get_or grids 127 nan) × (block_row grids modular 128 ≡ modular)
  -- one plane, where the other channels have weights and scales of NaN: the impulse on a single row again; and step 1 with sigma 2, M 1 and scale 1
  pub grey_weights : grey_blurred (b0 ∷ b16 ∷ b0 ∷ []) ≡ b4 ∷ b8 ∷ b4 ∷ []
  pub grey_scale : grey_stepped (b0 ∷ one_quarter ∷ []) ≡ bits 0x3c94_9423 ∷ bits 0x3e6d_6d7c ∷ []
  -- band 0 twice: 10; advance with band 1 missing: 11
  pub band_once : (band_outcome begun 0).number ≡ 0
  pub band_twice : (band_outcome band_zero 0).number ≡ 10
  pub band_missing : (advance_outcome band_zero.run).number ≡ 11
  -- two bands are left at first, then one
  pub bands_left_at : (begun.run.bands_left ≡ 2) × (band_zero.run.bands_left ≡ 1)
  -- sigma 1 does not copy
  pub not_copied : copied b1 standard_limit ≡ false
  -- a NaN sigma filters; copying would give −0 1, inf 1 and NaN 1
  pub nan_minus_zero : EachStep (λ k. stepped k nan 2 1 (minus_zero ∷ b1 ∷ []) ≡ b0 ∷ b1 ∷ [])
  pub nan_infinity : EachStep (λ k. stepped k nan 2 1 (infinity ∷ b1 ∷ []) ≡ nan ∷ nan ∷ [])
  pub nan_na_n : EachStep (λ k. stepped k nan 2 1 (nan ∷ b1 ∷ []) ≡ nan ∷ nan ∷ [])
  -- step 0 in its own order of sums, and in step 1's
  pub corner_zero : corner 0 ≡ bits 0x3100_6d9e
  pub corner_zero_as_one : corner_as 1 0 ≡ bits 0x3100_6d80
  pub middle_zero : middle 0 ≡ bits 0x3034_add2
  pub middle_zero_as_one : middle_as 1 0 ≡ bits 0x3034_adfd
  -- step 1 in its own order of sums, and in step 0's
  pub corner_one : corner 1 ≡ bits 0x3032_b54e
  pub corner_one_as_zero : corner_as 0 1 ≡ bits 0x3032_b578
  pub middle_one : middle 1 ≡ bits 0x3007_e265
  pub middle_one_as_zero : middle_as 0 1 ≡ bits 0x3007_e245
  -- row 23 is at a border, rows 20 to 22 are not; counted from the band, row 20 would be
  pub border_rows : last_rows ≡ bits 0x3e14_831c ∷ bits 0x3e14_831c ∷ bits 0x3e14_831c ∷ bits 0x3d94_9423 ∷ []
  pub border_rows_from_band : last_rows_from_band ≡ bits 0x3d94_9423 ∷ bits 0x3e14_831c ∷ bits 0x3e14_831c ∷ bits 0x3e14_831c ∷ []
  -- a band reads the rows around it; if it mirrored at its own edges, its one sample would be copied
  pub around_band : last_sample ≡ b12
  pub mirrored_at_band : smoothed 1 1 (b16 ∷ []) ≡ b16 ∷ []
