-- The table of constants, each row computed. Assumes nothing.
use mathlib.Core.Path.{refl}
use lib.Ieee.{of_bits, round, lt, add, sub, mul, div}
use Rattle.mirror.specs.Mirror.{mirror}
use Rattle.region_axis.specs.Measures.{corner_fits, side_fits}
use Rattle.region.specs.Regions.{region_of, inside}
use Rattle.region.specs.Measures.{bounds_fit, picture_fits}
use Rattle.header_bits.specs.Bits.{u, field}
use Rattle.header_half.specs.Value.{value_of, half_of}
use Rattle.header_half.specs.Half.{f16}
use Rattle.header_fields.specs.Fields.{nested, f16s, read}
use Rattle.header_gabor.specs.Channel.{near_zero, channel_fields}
use Rattle.header_gabor.specs.Gabor.{channels_fields, weight_fields, gabor_fields}
use Rattle.header_epf.specs.EdgeFilter.{parameter_fields, epf_fields}
use Rattle.planes.specs.Picture.{around, in_rect}
use Rattle.planes.specs.Sets.{of, set_of, tab}
use Rattle.planes.specs.Band.{in_filter, written, inner, passed}
use Rattle.rounding.specs.Magnitude.{magnitude}
use Rattle.epf_step.specs.Steps.{kernel, dists, along, scaled_from, apart, distance, positive, weight_by, copied, weight_at, blend, divisor, epf, border, multiplier, epf_pass}
use Rattle.sigma_grids.specs.Table.{some_below}
use Rattle.planes_layout.specs.Outcome.{layout_of}
use Rattle.run_passes.specs.Pass.{pass}
use Rattle.run_passes.specs.Plan.{scale_of, step_of, steps, plan}
use Rattle.run_setup.specs.Setup.{band_count, size_fits, numbers_fit, setup_fits}
use Rattle.run_record.specs.Record.{is_done, started, marked, band_missing, bad_done, bands_left_in, count_below, run_fits}
use Rattle.run_outcomes.specs.Band.{reads_first, band_checks, banded, band_outcome}
use Rattle.instances.specs.Instances.{bytes_of}
use Rattle.instances.specs.Constants.{Constants}

pub constants : Constants
unfolding of_bits round lt add sub mul div mirror corner_fits side_fits region_of inside bounds_fit picture_fits u field value_of half_of f16 nested f16s read near_zero channel_fields channels_fields weight_fields gabor_fields parameter_fields epf_fields bytes_of around of set_of tab in_rect in_filter written inner passed magnitude kernel dists along scaled_from apart distance positive weight_by copied weight_at blend divisor epf border multiplier epf_pass some_below layout_of pass scale_of step_of steps plan band_count size_fits numbers_fit setup_fits is_done started marked band_missing bad_done bands_left_in count_below run_fits reads_first band_checks banded band_outcome
constants = record {
  gabor_defaults = refl;
  epf_defaults = refl;
  quant_mul_modular = refl;
  scales_read = refl;
  limit_is = refl;
  copied_under = refl;
  filtered_at = refl;
  falloff_seen = refl;
}
