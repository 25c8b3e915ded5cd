-- What holds of the arguments of an accepted result call, and the outcomes of refused and accepted calls. Assumes nothing.
use mathlib.Core.Path.{◌≡◌}
use mathlib.Core.Bool.{true, false, ◌&&◌}
use mathlib.Core.List.{List}
use Prim.Native.Nat.{ℕ, ◌%◌}
use borrow.Author.Tests.{ne_eqb}
use lib.Dec.{T, eqb, eqb→eq}
use lib.ListN.{length}
use lib.Ieee.{Float}
use lib.Ieee.Fits.{and_l, and_r, and_i}
use Rattle.refusals.proofs.Tables.{met, met-given, of-true}
use Rattle.refusals.proofs.Rows.{here, below, row-passed}
use Rattle.planes.specs.Band.{planes_fit}
use Rattle.run_setup.specs.declared.Setup.{Setup}
use Rattle.run_record.specs.declared.Run.{Run}
use Rattle.run_setup.specs.Setup.{full_fits, layout, size_fits, set_length, result_region, result_length}
use Rattle.run_record.specs.Record.{run_fits, run_in_range}
use Rattle.run_setup.specs.SetupFits.{SetupFits}
use Rattle.run_setup.proofs.Laws.{setup-fits, image-size, result-size}
use Rattle.run_record.proofs.Laws.{run_fits_lem}
use Rattle.run_outcomes.specs.Band.{reads_first, set_check}
use Rattle.run_outcomes.specs.Result.{ResultOutcome, slice_check, result_checks, result_number, result_of, result_outcome}

-- the arguments of an accepted result call
pub record Lent (s : Setup) (first second out : List Float) : Type 0 where
  pub setup : SetupFits s
  pub one : length first ≡ set_length s
  pub two : length second ≡ set_length s
  pub slice : length out ≡ result_length s

module _ (r : Run) (first second out : List Float) where
  pub refused : (k : ℕ) → k ≡ result_number r first second out → (k ≡ 0 → ⊥)
      → ◌≡◌ {A = ResultOutcome} (record { number = k; out = out }) (result_outcome r first second out)
  unfolding result_outcome
  refused k e h = rw (← e, ne_eqb k 0 h)

  -- accepted
  module _ (z : result_number r first second out ≡ 0) where
    fits : SetupFits r.setup
    unfolding result_checks
    fits =
        setup-fits r.setup
        (run_fits_lem r (met (run_fits r) (row-passed (result_checks r first second out) tt z (run_in_range r) (search (here, below) depth 20)))).setup

    sets : T (eqb (length first) (set_length r.setup) && eqb (length second) (set_length r.setup))
    unfolding result_checks
    sets =
        met-given (size_fits r.setup.image && planes_fit r.setup.planes) (eqb (length first) (set_length r.setup) && eqb (length second) (set_length r.setup))
        (row-passed (result_checks r first second out) tt z (set_check r.setup (length first) (length second)) (search (here, below) depth 20))
        (and_i (size_fits r.setup.image) (planes_fit r.setup.planes) (of-true (size_fits r.setup.image) (image-size r.setup fits)) fits.planes)

    slice : T (eqb (length out) (result_length r.setup))
    unfolding result_checks
    slice =
        met-given (full_fits r.setup && (size_fits (result_region r.setup) && planes_fit r.setup.planes)) (eqb (length out) (result_length r.setup))
        (row-passed (result_checks r first second out) tt z (slice_check r.setup (length out)) (search (here, below) depth 20))
        (and_i (full_fits r.setup) (size_fits (result_region r.setup) && planes_fit r.setup.planes) fits.full
        (and_i (size_fits (result_region r.setup)) (planes_fit r.setup.planes) (of-true (size_fits (result_region r.setup)) (result-size r.setup fits)) fits.planes))

    pub lent : Lent r.setup first second out
    lent = record {
      setup = fits;
      one = eqb→eq _ _ (and_l (eqb (length first) (set_length r.setup)) (eqb (length second) (set_length r.setup)) sets);
      two = eqb→eq _ _ (and_r (eqb (length first) (set_length r.setup)) (eqb (length second) (set_length r.setup)) sets);
      slice = eqb→eq _ _ slice;
    }

    pub from_first : eqb (r.pass % 2) 0 ≡ true → (c : List Float) → c ≡ result_of r.setup.planes (layout r.setup) first
        → ◌≡◌ {A = ResultOutcome} (record { number = 0; out = c }) (result_outcome r first second out)
    unfolding result_outcome reads_first
    from_first p c h = rw (z, p, h)

    pub from_second : eqb (r.pass % 2) 0 ≡ false → (c : List Float) → c ≡ result_of r.setup.planes (layout r.setup) second
        → ◌≡◌ {A = ResultOutcome} (record { number = 0; out = c }) (result_outcome r first second out)
    unfolding result_outcome reads_first
    from_second p c h = rw (z, p, h)
