-- The table of limits, each row computed. Assumes nothing.
use mathlib.Core.Path.{refl}
use Rattle.header_bits.specs.Bits.{u}
use Rattle.mirror.specs.Mirror.{mirror}
use Rattle.region_interval.specs.Interval.{power_below}
use Rattle.region_axis.specs.Measures.{corner_fits, side_fits}
use Rattle.region.specs.Regions.{region_of, inside}
use Rattle.region.specs.Measures.{bounds_fit, picture_fits, rectangle_fits}
use Rattle.region_arithmetic.specs.Arithmetic.{shrunk_by, aligned_to}
use Rattle.region_arithmetic.specs.Answers.{region_answer}
use Rattle.frame.specs.Sizes.{sizes_of}
use Rattle.frame.specs.Outcome.{bad_sides, bad_settings}
use Rattle.sigma_groups.specs.Measures.{bad_blocks}
use Rattle.sigma_grids.specs.Table.{bad_grid, cells, grid_start, grid_lacks_block, some_below}
use Rattle.sigma_grids.specs.Start.{no_entries}
use Rattle.sigma_groups.specs.Held.{not_held, some_not_held}
use Rattle.sigma_groups.specs.Outcome.{table_fits, grids_fit}
use Rattle.planes_layout.specs.Outcome.{layout_of, pass_checks, pass_outcome}
use Rattle.epf.specs.Outcome.{step_checks, epf_checks, epf_outcome}
use Rattle.run_passes.specs.Plan.{steps, plan, step_margin, margin_checks, margin_outcome}
use Rattle.run_setup.specs.Setup.{band_count, size_fits, numbers_fit, setup_fits}
use Rattle.run_record.specs.Record.{is_done, started, band_missing, bad_done, bands_left_in, count_below, run_fits}
use Rattle.run_outcomes.specs.Start.{picture_checks, start_checks, start_outcome}
use Rattle.run_outcomes.specs.Band.{band_checks, band_outcome, advance_outcome}
use Rattle.run_outcomes.specs.Result.{result_checks, result_outcome}
use Rattle.loupe_region.specs.Widened.{widened}
use Rattle.loupe_region.specs.Outcome.{rectangle_checks, widened_checks, widened_outcome}
use Rattle.loupe.specs.Outcome.{loupe_checks, loupe_outcome}
use Rattle.cut_file.specs.File.{body_at}
use Rattle.cut_file.specs.Read.{entry_checks, file_checks, region_checks, read_checks}
use Rattle.cut_file.specs.Write.{rectangles_fit, table_checks, length_checks, write_checks}
use Rattle.cut_read.specs.Outcome.{count_outcome}
use Rattle.cut_write.specs.Outcome.{length_outcome}
use Rattle.instances.specs.Limits.{Limits, numbers_of}

pub limits : Limits
unfolding u mirror power_below corner_fits side_fits region_of inside bounds_fit picture_fits rectangle_fits shrunk_by aligned_to region_answer sizes_of bad_sides bad_settings bad_blocks bad_grid cells grid_start grid_lacks_block some_below no_entries not_held some_not_held table_fits grids_fit layout_of pass_outcome step_checks epf_checks epf_outcome steps plan step_margin margin_checks margin_outcome band_count size_fits numbers_fit setup_fits is_done started band_missing bad_done bands_left_in count_below run_fits picture_checks start_checks start_outcome band_checks band_outcome advance_outcome result_checks result_outcome pass_checks numbers_of widened rectangle_checks widened_checks widened_outcome loupe_checks loupe_outcome body_at entry_checks file_checks region_checks read_checks rectangles_fit table_checks length_checks write_checks count_outcome length_outcome
limits = record {
  region_side = (refl, refl);
  region_right = (refl, refl);
  region_left = (refl, refl);
  factor = (refl, refl);
  alignment = (refl, refl);
  picture_side = (refl, refl);
  picture_area = (refl, refl);
  header_most = λ s e. rw e refl;
  header_past = λ s e. rw e refl;
  mirror_least = (refl, refl);
  mirror_length = (refl, refl);
  mirror_over = (refl, refl);
  mirror_under = (refl, refl);
  frame_side = (refl, refl);
  frame_least = (refl, refl);
  upsampling_most = (refl, refl);
  upsampling_other = (refl, refl);
  lf_level_of = (refl, refl);
  group_shift_of = (refl, refl);
  split_shift = (refl, refl);
  grid_side = (refl, refl);
  grid_least = (refl, refl);
  block_side = (refl, refl);
  block_area = (refl, refl);
  block_left = (refl, refl);
  record_side = (refl, refl);
  record_area = (refl, refl);
  planes_one = (refl, refl, refl);
  planes_three = (refl, refl);
  iterations = (refl, refl);
  band_height_of = (refl, refl);
  band_least = (refl, refl);
  band_most = (refl, refl);
  sets_wide = (refl, refl);
  sets_high = (refl, refl);
  sets_area = (refl, refl);
  sigmas_wide = (refl, refl);
  sigmas_high = (refl, refl);
  slice_wide = (refl, refl);
  slice_high = (refl, refl);
  start_inside = (refl, refl);
  start_on_blocks = (refl, refl);
  start_held = (refl, refl);
  start_full = (refl, refl);
  start_gabor = (refl, refl);
  start_presence = (refl, refl);
  step_most = (refl, refl);
  step_inside = (refl, refl);
  step_on_blocks = (refl, refl);
  step_full = (refl, refl);
  sigmas_held = (refl, refl);
  sigmas_on = (refl, refl);
  sigmas_presence = (refl, refl);
  margins = (refl, refl, refl, refl);
  margins_gabor = (refl, refl, refl, refl);
  margin_iterations = (refl, refl);
  margin_gabor = (refl, refl);
  wanted_inside = (refl, refl);
  wanted_beside = (refl, refl);
  wanted_empty = (refl, refl);
  whole_side = (refl, refl);
  limits_first = (refl, refl);
  whole_on_blocks = (refl, refl);
  wanted_first = refl;
  widened_edges = refl;
  widened_refused = refl;
  widened_past = refl;
  loupe_sets = (refl, refl, refl, refl);
  loupe_sigmas = (refl, refl, refl, refl, refl);
  loupe_slice = (refl, refl, refl);
  loupe_held = (refl, refl, refl);
  cut_bytes_most = λ s e z. rw (e, z) refl;
  cut_bytes_past = λ s e. rw e refl;
  cut_least = (refl, refl);
  cut_most = (refl, refl);
  cut_longest = (refl, refl);
  cut_grey_longest = (refl, refl);
  cut_planes = (refl, refl, refl, refl, refl);
  levels = (refl, refl, refl);
  start_numbers = λ h. refl;
  band_numbers = λ t k. refl;
  advance_numbers = λ r. refl;
  result_numbers = λ r first second out. refl;
  sigma_numbers = λ on f b t grids n. refl;
  pass_numbers = λ image filter n full from to src dst. refl;
  epf_numbers = λ image filter n full s sigmas from to src dst. refl;
  widened_numbers = λ s. refl;
  loupe_numbers = λ h. refl;
  read_numbers = λ s k n e. rw e refl;
  write_numbers = λ planes t samples file. refl;
}
