-- The table of instances, each row computed. Assumes nothing.
use mathlib.Core.Path.{refl}
use lib.Ieee.{of_bits, lt, add, sub, mul, div}
use Rattle.mirror.specs.Mirror.{mirror}
use Rattle.region_interval.specs.Interval.{power_below}
use Rattle.region_axis.specs.Measures.{corner_fits, side_fits}
use Rattle.region.specs.Regions.{region_of, inside}
use Rattle.region_arithmetic.specs.Arithmetic.{shrunk_by, aligned_to}
use Rattle.region.specs.Measures.{bounds_fit, picture_fits}
use Rattle.region_arithmetic.specs.Answers.{region_answer}
use Rattle.header_bits.specs.Bits.{u, field}
use Rattle.header_half.specs.Value.{value_of, half_of}
use Rattle.header_half.specs.Half.{f16}
use Rattle.header_fields.specs.Fields.{nested, read}
use Rattle.header_gabor.specs.Channel.{near_zero, channel_fields}
use Rattle.header_gabor.specs.Gabor.{channels_fields, weight_fields, gabor_fields}
use Rattle.planes.specs.Picture.{around, in_rect}
use Rattle.planes.specs.Sets.{of, set_of, tab}
use Rattle.planes.specs.Band.{in_filter, written, inner, passed}
use Rattle.gabor_kernel.specs.Ends.{stands}
use Rattle.gabor_kernel.specs.Formula.{evaluate, formula}
use Rattle.gabor_kernel.specs.Gabor.{alone, gabor_by, gabor_pass}
use Rattle.rounding.specs.Magnitude.{magnitude}
use Rattle.epf_step.specs.Steps.{kernel, dists, along, scaled_from, apart, distance, positive, weight_by, copied, weight_at, blend, divisor, epf, border, multiplier, epf_pass}
use Rattle.frame.specs.Sizes.{sizes_of}
use Rattle.sigma_grids.specs.Table.{cells, grid_start, some_below}
use Rattle.sigma.specs.Sigma.{sigma_in, frame_sigma, block_sigma, block_sigmas}
use Rattle.planes_layout.specs.Outcome.{layout_of}
use Rattle.run_passes.specs.Pass.{pass}
use Rattle.run_passes.specs.Plan.{scale_of, step_of, steps, plan}
use Rattle.run_setup.specs.Setup.{band_count, size_fits, numbers_fit, setup_fits}
use Rattle.run_record.specs.Record.{is_done, started, marked, band_missing, bad_done, bands_left_in, count_below, run_fits}
use Rattle.run_outcomes.specs.Band.{reads_first, band_checks, banded, band_outcome, advance_outcome}
use Rattle.instances.specs.Instances.{bytes_of, Table}
use Rattle.instances.proofs.Any.{copied-below, nan-sigma}

pub table : Table
unfolding of_bits lt add sub mul div mirror power_below corner_fits side_fits region_of shrunk_by aligned_to inside bounds_fit picture_fits region_answer u field value_of half_of f16 nested read near_zero channel_fields channels_fields weight_fields gabor_fields bytes_of around of set_of tab in_rect in_filter written inner passed stands evaluate formula alone gabor_by gabor_pass magnitude kernel dists along scaled_from apart distance positive weight_by copied weight_at blend divisor epf border multiplier epf_pass sizes_of cells grid_start some_below sigma_in frame_sigma block_sigma block_sigmas layout_of pass scale_of step_of steps plan band_count size_fits numbers_fit setup_fits is_done started marked band_missing bad_done bands_left_in count_below run_fits reads_first band_checks banded band_outcome advance_outcome
table = record {
  mirror_of_one = refl;
  mirror_of_two = refl;
  mirror_of_four = refl;
  mirror_of_three = refl;
  border_six = refl;
  border_seven = refl;
  border_eight = refl;
  border_nine = refl;
  half_least = refl;
  half_subnormal = refl;
  half_greatest = refl;
  half_minus_zero = refl;
  half_infinite = refl;
  weights_refused = refl;
  weights_accepted = refl;
  downsampled = refl;
  aligned = refl;
  impulse = refl;
  single_row = refl;
  single_row_flat = refl;
  single_row_end = refl;
  single_row_rounded = refl;
  copied_below = copied-below;
  nan_sigma = nan-sigma;
  missing_grid = λ grids modular. (refl, refl);
  grey_weights = refl;
  grey_scale = refl;
  band_once = refl;
  band_twice = refl;
  band_missing = refl;
  bands_left_at = (refl, refl);
  not_copied = refl;
  nan_minus_zero = (refl, refl, refl);
  nan_infinity = (refl, refl, refl);
  nan_na_n = (refl, refl, refl);
  corner_zero = refl;
  corner_zero_as_one = refl;
  middle_zero = refl;
  middle_zero_as_one = refl;
  corner_one = refl;
  corner_one_as_zero = refl;
  middle_one = refl;
  middle_one_as_zero = refl;
  border_rows = refl;
  border_rows_from_band = refl;
  around_band = refl;
  mirrored_at_band = refl;
}
