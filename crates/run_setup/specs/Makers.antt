-- The only place where setups (Specification 12.1, 12.7) are made: zeros, and functions that change some fields. A new field gets its value
-- here. Definitions only.
use Rattle.std.specs.Prelude.{ℕ}
use Rattle.region.specs.declared.Region.{Region}
use Rattle.region.specs.Regions.{zero_region}
use Rattle.run_passes.specs.declared.Settings.{Settings}
use Rattle.run_passes.specs.Makers.{no_settings}
use Rattle.run_setup.specs.declared.Setup.{Setup}

abbrev pub no_setup : Setup
no_setup = record { image = zero_region; filter = zero_region; planes = 0; preserve_outside = 0; settings = no_settings; band_height = 0 }

-- the image region and the filter region
abbrev pub with_regions : Region → Region → Setup → Setup
with_regions image filter s = record { image = image; filter = filter; planes = s.planes; preserve_outside = s.preserve_outside; settings = s.settings; band_height = s.band_height }

-- the number of planes
abbrev pub with_planes : ℕ → Setup → Setup
with_planes planes s = record { image = s.image; filter = s.filter; planes = planes; preserve_outside = s.preserve_outside; settings = s.settings; band_height = s.band_height }

-- the flag `preserve_outside`
abbrev pub with_full : ℕ → Setup → Setup
with_full full s = record { image = s.image; filter = s.filter; planes = s.planes; preserve_outside = full; settings = s.settings; band_height = s.band_height }

abbrev pub with_settings : Settings → Setup → Setup
with_settings settings s = record { image = s.image; filter = s.filter; planes = s.planes; preserve_outside = s.preserve_outside; settings = settings; band_height = s.band_height }

abbrev pub with_band_height : ℕ → Setup → Setup
with_band_height height s = record { image = s.image; filter = s.filter; planes = s.planes; preserve_outside = s.preserve_outside; settings = s.settings; band_height = height }

-- all fields at once
abbrev pub setup_with : Region → Region → ℕ → ℕ → Settings → ℕ → Setup
setup_with image filter planes full settings height =
    with_band_height height (with_settings settings (with_full full (with_planes planes (with_regions image filter no_setup))))
