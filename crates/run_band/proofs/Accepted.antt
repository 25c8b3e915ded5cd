-- What holds of the state that an accepted band is given, and that the code's tests give the outcomes of the definition. Assumes nothing.
use mathlib.Core.Path.{◌≡◌, ap, ◌∙◌}
use mathlib.Core.Bool.{Bool, true, false, cond, not, ◌&&◌, ◌||◌}
use mathlib.Core.List.{List}
use Prim.Native.Nat.{ℕ, suc, ◌+◌, ◌-◌, ◌*◌, ◌%◌, ◌<◌, ◌≤◌, min}
use native.Mathlib.Nat.{mul-le-mul, suc-mul, le-div_iff_mul-le}
use native.Mathlib.Omega.{arith}
use borrow.Author.Tests.{ne_eqb, le-leb}
use lib.Dec.{T, eqb, eqb→eq}
use lib.ListN.{length}
use lib.Ieee.{Float}
use lib.Ieee.Fits.{and_l, and_r, and_i}
use Rattle.region.proofs.Laws.{picture-bounds, bounds-height}
use Rattle.planes_layout.specs.Outcome.{layout_of}
use Rattle.planes.specs.Band.{planes_fit}
use Rattle.run_setup.specs.declared.Setup.{Setup}
use Rattle.run_setup.specs.Setup.{max_bands, full_planes, epf_on, row_count, band_count, band_from, band_to, size_fits, iters_fit, set_length, sigma_length}
use Rattle.run_record.specs.Record.{marked}
use Rattle.refusals.proofs.Tables.{of-true, met-given}
use Rattle.run_setup.specs.SetupFits.{SetupFits}
use Rattle.run_setup.proofs.Laws.{setup-fits, image-size, filter-size}
use Rattle.run_record.proofs.Laws.{pass-left}
use Rattle.run_record.proofs.Counts.{marked-left}
use Rattle.run_outcomes.specs.Band.{State, BandOutcome, set_check, sigma_check, reads_first, band_checks, band_number, banded, band_outcome}
use Rattle.refusals.proofs.Rows.{here, below, row-passed}
use Rattle.run_outcomes.proofs.Laws.{BandFits, band-fits}
use Rattle.run_band.specs.Rows.{RowsFit, passed_rows, band_written}

-- ---- an accepted band

module _ (t : State) (k : ℕ) (e : band_number t k ≡ 0) where
  abbrev s : Setup
  s = t.run.setup

  fits : BandFits t k
  fits = band-fits t k e

  setup : SetupFits s
  setup = setup-fits s fits.run.setup

  sets : T (eqb (length t.first) (set_length s) && eqb (length t.second) (set_length s))
  unfolding band_checks
  sets =
      met-given (size_fits s.image && planes_fit s.planes) (eqb (length t.first) (set_length s) && eqb (length t.second) (set_length s))
      (row-passed (band_checks t k) tt e (set_check s (length t.first) (length t.second)) (search (here, below) depth 20))
      (and_i (size_fits s.image) (planes_fit s.planes) (of-true (size_fits s.image) (image-size s setup)) setup.planes)

  first-length : length t.first ≡ set_length s
  first-length = eqb→eq _ _ (and_l (eqb (length t.first) (set_length s)) (eqb (length t.second) (set_length s)) sets)

  second-length : length t.second ≡ set_length s
  second-length = eqb→eq _ _ (and_r (eqb (length t.first) (set_length s)) (eqb (length t.second) (set_length s)) sets)

  sigma-known : T (iters_fit s && (not (epf_on s) || size_fits s.filter))
  sigma-known =
      rw (le-leb s.settings.epf.iters 3 setup.iterations, filter-size s setup) (either (epf_on s))
    where
      either : (b : Bool) → T (not b || true)
      either true = tt
      either false = tt

  sigma-length : length t.sigmas ≡ sigma_length s
  unfolding band_checks
  sigma-length =
      eqb→eq _ _ (met-given (iters_fit s && (not (epf_on s) || size_fits s.filter)) (eqb (length t.sigmas) (sigma_length s)) (row-passed (band_checks t k) tt e (sigma_check s (length t.sigmas)) (search (here, below) depth 20)) sigma-known)

  -- bounds in machine integers
  pub record Room : Type 0 where
    pub band : k < max_bands
    pub height : s.band_height ≤ 16384
    pub from : k * s.band_height ≤ max_bands * 16384
    pub rows : row_count s ≤ 16384

  rows-most : row_count s ≤ 16384
  unfolding layout_of
  rows-most = go (full_planes s)
    where
      go : (b : Bool) → cond b s.image.height s.filter.height ≤ 16384
      go true = bounds-height s.image (picture-bounds s.image setup.image)
      go false = bounds-height s.filter (picture-bounds s.filter setup.filter)

  pub room : Room
  room =
      let b : k < max_bands = omega (arith, fits.band.below, setup.count) in
      let c : k ≤ max_bands = omega arith in
      record { band = b; height = setup.height-most; from = mul-le-mul c setup.height-most; rows = rows-most }

  -- one band fewer is left after it
  pub fewer-left : length t.run.done ≡ max_bands → t.run.bands_left ≡ suc (marked t.run k).bands_left
  fewer-left l = marked-left t.run k l fits.run fits.band

  -- it ends with the rows of the definition
  pub band-end : (rows to : ℕ) → rows ≡ row_count s → to ≡ min (k * s.band_height + s.band_height) rows → to ≡ band_to s k
  band-end rows to r m = omega (arith, r, m)

  -- it starts before the last row
  begins : band_from s k ≤ row_count s
  unfolding band_count
  begins =
      let h = s.band_height in
      let p : 0 < h = setup.height-least in
      let m : suc k * h ≤ row_count s + h - 1 = (le-div_iff_mul-le p).0 fits.band.below in
      omega (arith, suc-mul k h)

  pub first_rows : RowsFit t.run (length t.sigmas) (length t.first) (length t.second) (band_from s k) (band_to s k)
  first_rows = record {
    run = fits.run;
    left = pass-left t.run fits.run fits.band.unfinished;
    sigma = sigma-length;
    source = first-length;
    target = second-length;
    order = omega (arith, begins);
    rows = omega arith;
  }

  pub second-rows : RowsFit t.run (length t.sigmas) (length t.second) (length t.first) (band_from s k) (band_to s k)
  second-rows = let f = first_rows in record { run = f.run; left = f.left; sigma = f.sigma; source = f.target; target = f.source; order = f.order; rows = f.rows }

-- ---- which set is written

module _ (t : State) (k : ℕ) where
  abbrev Written : List Float → List Float → Type 0
  Written first second = ◌≡◌ {A = State} (record { run = t.run; sigmas = t.sigmas; first = first; second = second }) (band_written t k)

  pub second-written : eqb (t.run.pass % 2) 0 ≡ true → (b : List Float) → b ≡ passed_rows t.run t.sigmas (band_from t.run.setup k) (band_to t.run.setup k) t.first t.second
      → Written t.first b
  unfolding banded reads_first
  second-written e b h = rw (e, h)

  pub first-written : eqb (t.run.pass % 2) 0 ≡ false → (b : List Float) → b ≡ passed_rows t.run t.sigmas (band_from t.run.setup k) (band_to t.run.setup k) t.second t.first
      → Written b t.second
  unfolding banded reads_first
  first-written e b h = rw (e, h)

  pub band-refused : (n : ℕ) → n ≡ band_number t k → (n ≡ 0 → ⊥) → ◌≡◌ {A = BandOutcome} (record { number = n; state = t }) (band_outcome t k)
  unfolding band_outcome
  band-refused n e h =
      let z : eqb (band_number t k) 0 ≡ false = ne_eqb (band_number t k) 0 (λ q. h (e ∙ q)) in
      rw (z, e)

  pub band-done : band_number t k ≡ 0 → (a b : List Float) → Written a b
      → ◌≡◌ {A = BandOutcome} (record { number = 0; state = record { run = marked t.run k; sigmas = t.sigmas; first = a; second = b } }) (band_outcome t k)
  unfolding band_outcome
  band-done z a b w =
      let f : a ≡ cond (reads_first t.run) t.first (banded t k) = ap (λ (u : State). u.first) w in
      let g : b ≡ cond (reads_first t.run) (banded t k) t.second = ap (λ (u : State). u.second) w in
      rw (z, f, g)
