-- Corollaries of the theorem on rectangles (Specification 13.8): a whole picture, two rectangles of one picture, any order and height of
-- bands. Statements only.
use Rattle.std.specs.Prelude.{◌≡◌, List, ℕ, ◌<◌, T, ℤ, length, Float}
use Rattle.region.specs.Regions.{Holds}
use Rattle.planes.specs.Sets.{of}
use Rattle.run_passes.specs.Plan.{margin}
use Rattle.run_setup.specs.Setup.{result_region, result_length}
use Rattle.run_record.specs.Record.{finished}
use Rattle.run_outcomes.specs.Start.{Handed, start_leaves}
use Rattle.run_outcomes.specs.Result.{ResultOutcome}
use Rattle.run_calls.specs.Calls.{StartAccepted, start_state, Calls, end, Unaltered}
use Rattle.run_calls.specs.Places.{Clear, at, sample_at, result_at}
use Rattle.run_calls.specs.Theorem.{CutFrom, result_after}

-- a finished run: an accepted start, unaltered calls after it that finish the run, and a slice for the result
pub record FinishedRun (K : Calls) (h : Handed) : Type 0 where
  pub accepted : StartAccepted h
  pub calls : List K.Call
  pub unaltered : Unaltered K (start_state h) calls
  pub ended : T (finished (end K (start_state h) calls).run)
  pub slice : List Float
  pub room : length slice ≡ result_length h.setup

-- the sample of the first set, as it is after start, at a position of the image region
abbrev pub first_at : Handed → ℕ → ℤ → ℤ → Float
first_at h = at h.setup.image (of h.setup.image.width h.setup.image.height (start_leaves h))

-- Two starts that differ at most in the band height and in the old contents of the second set and of the block sigmas.
pub record SameButBands (a b : Handed) : Type 0 where
  pub image : a.setup.image ≡ b.setup.image
  pub filter : a.setup.filter ≡ b.setup.filter
  pub planes : a.setup.planes ≡ b.setup.planes
  pub full : a.setup.preserve_outside ≡ b.setup.preserve_outside
  pub settings : a.setup.settings ≡ b.setup.settings
  pub frame : a.frame ≡ b.frame
  pub table : a.table ≡ b.table
  pub grids : a.grids ≡ b.grids
  pub first : a.first ≡ b.first

-- K is the kind of calls.
module _ (K : Calls) where
  -- the result call that ends a finished run
  abbrev pub handed_over : (h : Handed) → FinishedRun K h → ResultOutcome
  handed_over h r = result_after K h r.calls r.slice

  -- A rectangle that is the whole picture: every filtered sample of the result is the smoothed sample; no margin is needed.
  abbrev pub WholePicture : Type 0
  WholePicture = (h : Handed) (r : FinishedRun K h) → ((handed_over h r).number ≡ 0)
      × ((c : ℕ) (x y : ℤ) → c < h.setup.planes → Holds h.setup.filter x y → result_at h.setup (handed_over h r).out c x y ≡ sample_at h c x y)

  -- Two rectangles of one picture agree wherever both are clear of their cut edges by the margin.
  abbrev pub TwoCutsAgree : Type 0
  TwoCutsAgree = (a b large : Handed) → CutFrom a large → CutFrom b large → (r : FinishedRun K a) (q : FinishedRun K b)
      → (c : ℕ) (x y : ℤ) → c < a.setup.planes → c < b.setup.planes → Holds a.setup.filter x y → Holds b.setup.filter x y
      → Clear (margin a.setup.settings) a.setup.filter large.setup.filter x y
      → Clear (margin b.setup.settings) b.setup.filter large.setup.filter x y
      → result_at a.setup (handed_over a r).out c x y ≡ result_at b.setup (handed_over b q).out c x y

  -- Outside the filter region, which the result covers only if `preserve_outside` is 1, every sample is that of the first set.
  abbrev pub OutsideKept : Type 0
  OutsideKept = (h : Handed) (r : FinishedRun K h) (c : ℕ) (x y : ℤ) → c < h.setup.planes → Holds (result_region h.setup) x y → (Holds h.setup.filter x y → ⊥)
      → result_at h.setup (handed_over h r).out c x y ≡ first_at h c x y

  -- Any order of bands and any band height give the same result.
  abbrev pub BandsAlike : Type 0
  BandsAlike = (a b : Handed) → SameButBands a b → (r : FinishedRun K a) (q : FinishedRun K b) → (handed_over a r).out ≡ (handed_over b q).out
