-- What a setup in range has. Definitions only.
use Rattle.std.specs.Prelude.{◌≤◌, T}
use Rattle.region.specs.Regions.{inside}
use Rattle.region.specs.Measures.{picture_fits}
use Rattle.region_placement.specs.Blocks.{on_blocks}
use Rattle.planes.specs.Band.{planes_fit}
use Rattle.run_passes.specs.Plan.{gabor_fits}
use Rattle.run_setup.specs.declared.Setup.{Setup}
use Rattle.run_setup.specs.Setup.{max_bands, full_fits, epf_on, band_count}

-- a setup that start would not refuse under 4, 5, 6 and 9
pub record SetupFits (s : Setup) : Type 0 where
  pub image : T (picture_fits s.image)
  pub filter : T (picture_fits s.filter)
  pub contained : T (inside s.image s.filter)
  pub blocks : T (epf_on s) → T (on_blocks s.filter)
  pub iterations : s.settings.epf.iters ≤ 3
  pub planes : T (planes_fit s.planes)
  pub full : T (full_fits s)
  pub gabor : T (gabor_fits s.settings)
  pub height-least : 1 ≤ s.band_height
  pub height-most : s.band_height ≤ 16384
  pub count : band_count s ≤ max_bands
