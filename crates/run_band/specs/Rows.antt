-- Rows of a pass of a run: when the arguments fit, and the written set after it. Definitions only.
use Rattle.std.specs.Prelude.{◌≡◌, cond, List, ℕ, ◌<◌, ◌≤◌, Float}
use Rattle.planes.specs.Band.{inner, passed}
use Rattle.run_passes.specs.Pass.{pass}
use Rattle.run_record.specs.declared.Run.{Run}
use Rattle.run_setup.specs.Setup.{pass_count, layout, area, row_count, set_length, sigma_length}
use Rattle.run_record.specs.RunFits.{RunFits}
use Rattle.run_outcomes.specs.Band.{State, reads_first, next_pass, banded}

-- dst after the next pass over rows `from` up to `to` of the result region
abbrev pub passed_rows : Run → List Float → ℕ → ℕ → List Float → List Float → List Float
passed_rows r sigmas from to src dst =
    passed r.setup.planes (layout r.setup) from to (pass (area r.setup sigmas) (next_pass r) (inner (layout r.setup) src)) src dst

-- the run is not finished, the slices have their lengths, and the result region has these rows
pub record RowsFit (r : Run) (sigmas src dst from to : ℕ) : Type 0 where
  pub run : RunFits r
  pub left : r.pass < pass_count r.setup
  pub sigma : sigmas ≡ sigma_length r.setup
  pub source : src ≡ set_length r.setup
  pub target : dst ≡ set_length r.setup
  pub order : from ≤ to
  pub rows : to ≤ row_count r.setup

-- ---- a band

-- the state with the band's rows written; the record is unchanged
abbrev pub band_written : State → ℕ → State
band_written t k = record {
  run = t.run;
  sigmas = t.sigmas;
  first = cond (reads_first t.run) t.first (banded t k);
  second = cond (reads_first t.run) (banded t k) t.second;
}
