-- What a valid record has. Definitions only.
use Rattle.std.specs.Prelude.{◌≡◌, false, ℕ, ◌<◌, ◌≤◌, T, get_or}
use Rattle.run_record.specs.declared.Run.{Run}
use Rattle.run_setup.specs.Setup.{pass_count, max_bands, setup_fits}
use Rattle.run_record.specs.Record.{is_done, open_bands, left_by_flags}

-- the setup is in range, `pass` is at most the number of passes, each flag is one that accepted calls give, and the number of bands left is the
-- one that the flags give
pub record RunFits (r : Run) : Type 0 where
  pub setup : T (setup_fits r.setup)
  pub pass : r.pass ≤ pass_count r.setup
  pub flag : (k : ℕ) → k < max_bands → get_or r.done k 0 ≤ 1
  pub none-past-count : (k : ℕ) → k < max_bands → open_bands r ≤ k → is_done r k ≡ false
  pub left : r.bands_left ≡ left_by_flags r
