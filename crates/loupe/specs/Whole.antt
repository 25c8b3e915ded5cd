-- The wanted samples are the whole picture's (Specification 17.6). Statements only.
use Rattle.std.specs.Prelude.{◌≡◌, List, ℕ, ◌<◌, T, ℤ, Float}
use Rattle.region.specs.Regions.{Holds}
use Rattle.planes.specs.Sets.{of}
use Rattle.run_setup.specs.Setup.{passes_of, epf_on}
use Rattle.run_outcomes.specs.Start.{Handed}
use Rattle.run_calls.specs.Places.{at, input_at, sample_at}
use Rattle.run_calls.specs.Theorem.{Unrefused, SameSources}
use Rattle.loupe_region.specs.Outcome.{widened_region}
use Rattle.loupe.specs.Outcome.{LoupeHanded, run_setup_of, as_run, loupe_outcome}

-- The arguments show a part of a whole picture, which is given by the arguments of its start.
pub record PartOf (h : LoupeHanded) (whole : Handed) : Type 0 where
  -- the whole would not be refused under 4 to 9, and its filter region is the setup's `whole`
  pub unrefused : Unrefused whole
  pub same-region : whole.setup.filter ≡ h.setup.whole
  -- the same passes, and settings that agree in all that these read
  pub same-passes : passes_of (run_setup_of h.setup) ≡ passes_of whole.setup
  -- the samples agree in each plane, at each position of the widened rectangle
  pub inputs-agree : (c : ℕ) (x y : ℤ) → c < h.setup.planes → Holds (widened_region h.setup) x y → input_at (as_run h) c x y ≡ input_at whole c x y
  -- if the EPF is on, the whole has the sources of block sigmas that the call was handed
  pub same-sources : T (epf_on (run_setup_of h.setup)) → SameSources (as_run h) whole

-- an accepted call has the whole picture's smoothed sample at each wanted position
abbrev pub WholeEqual : LoupeHanded → ℕ → List Float → Type 0
WholeEqual h number out =
    number ≡ 0 → (whole : Handed) → PartOf h whole → (c : ℕ) (x y : ℤ) → c < h.setup.planes → Holds h.setup.wanted x y
    → at h.setup.wanted (of h.setup.wanted.width h.setup.wanted.height out) c x y ≡ sample_at whole c x y

-- the outcome of every call does
abbrev pub LoupeTheorem : Type 0
LoupeTheorem = (h : LoupeHanded) → WholeEqual h (loupe_outcome h).number (loupe_outcome h).out
