-- Band and advance: the state, the number of a call, and the state after it (Specification 12.8–12.12). Definitions only.
use Rattle.std.specs.Prelude.{Bool, cond, not, ◌&&◌, ◌||◌, List, [], ◌∷◌, ℕ, ◌%◌, eqb, length, get_or, Float}
use Rattle.refusals.specs.Numbers.{wrong_length}
use Rattle.refusals.specs.Checks.{Check, given, first_of}
use Rattle.planes.specs.Band.{inner, passed, planes_fit}
use Rattle.run_passes.specs.Pass.{Pass, gabor_like, pass}
use Rattle.run_setup.specs.declared.Setup.{Setup}
use Rattle.run_record.specs.declared.Run.{Run}
use Rattle.run_setup.specs.Setup.{passes_of, layout, epf_on, area, band_from, band_to, size_fits, iters_fit, set_length, sigma_length}
use Rattle.run_record.specs.Record.{open_checks, over_checks, marked, advanced}
use Rattle.run_outcomes.specs.declared.RunAnswer.{RunAnswer}

-- the record, the block sigmas and both sets
pub record State : Type 0 where
  pub run : Run
  pub sigmas : List Float
  pub first : List Float
  pub second : List Float

-- a call's number, and the state after it
pub record BandOutcome : Type 0 where
  pub number : ℕ
  pub state : State

-- ---- which set is read: the first one in the first pass; each advance exchanges the sets

unfoldable pub reads_first : Run → Bool
reads_first r = eqb (r.pass % 2) 0

abbrev pub source : State → List Float
source t = cond (reads_first t.run) t.first t.second

abbrev pub target : State → List Float
target t = cond (reads_first t.run) t.second t.first

-- ---- lengths; each check is passed over only if the values that the length is computed from are out of range

-- both sets, also the one that is written
abbrev pub set_check : Setup → ℕ → ℕ → Check
set_check s one other = given (size_fits s.image && planes_fit s.planes) wrong_length (not (eqb one (set_length s) && eqb other (set_length s)))

abbrev pub sigma_check : Setup → ℕ → Check
sigma_check s len = given (iters_fit s && (not (epf_on s) || size_fits s.filter)) wrong_length (not (eqb len (sigma_length s)))

-- ---- a band

unfoldable pub band_checks : State → ℕ → List Check
band_checks t k =
    set_check t.run.setup (length t.first) (length t.second)
    ∷ sigma_check t.run.setup (length t.sigmas)
    ∷ open_checks t.run k

abbrev pub band_number : State → ℕ → ℕ
band_number t k = first_of (band_checks t k)

-- the pass that runs next
abbrev pub next_pass : Run → Pass
next_pass r = get_or (passes_of r.setup) r.pass (gabor_like [])

-- the written set after an accepted band: in the band's rows of the result region the pass's samples, copies outside the filter region;
-- the rest is unchanged
unfoldable pub banded : State → ℕ → List Float
banded t k =
    let s = t.run.setup in
    passed s.planes (layout s) (band_from s k) (band_to s k) (pass (area s t.sigmas) (next_pass t.run) (inner (layout s) (source t))) (source t) (target t)

abbrev pub band_accepted : State → ℕ → State
band_accepted t k = record {
  run = marked t.run k;
  sigmas = t.sigmas;
  first = cond (reads_first t.run) t.first (banded t k);
  second = cond (reads_first t.run) (banded t k) t.second;
}

-- a refused band leaves the state unchanged
unfoldable pub band_outcome : State → ℕ → BandOutcome
band_outcome t k = record { number = band_number t k; state = cond (eqb (band_number t k) 0) (band_accepted t k) t }

-- ---- an advance

abbrev pub advance_number : Run → ℕ
advance_number r = first_of (over_checks r)

unfoldable pub advance_outcome : Run → RunAnswer
advance_outcome r = record { number = advance_number r; run = cond (eqb (advance_number r) 0) (advanced r) r }
