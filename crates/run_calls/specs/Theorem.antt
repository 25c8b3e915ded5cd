-- The theorem on rectangles (Specification 13.6): any list of calls that finishes a run on a rectangle cut from a larger picture gives the
-- larger picture's smoothed samples beyond the margin. It has two forms: `RectangleTheorem`, of pictures whose block sigmas agree, and
-- `SourcesTheorem`, of pictures in which what block sigmas come from is equal. The second follows from the first, since equal sources give
-- equal block sigmas (`SourcesGiveSigmas`). Statements only.
use Rattle.std.specs.Prelude.{◌≡◌, List, ℕ, ◌<◌, T, ℤ, length, Float}
use Rattle.refusals.specs.Checks.{first_of}
use Rattle.region.specs.Regions.{inside, Holds}
use Rattle.frame.specs.Sizes.{sizes_of}
use Rattle.sigma_grids.specs.Table.{present, grid_width, grid_height}
use Rattle.run_passes.specs.Plan.{margin}
use Rattle.run_setup.specs.Setup.{passes_of, epf_on, result_length}
use Rattle.run_record.specs.Record.{finished}
use Rattle.run_outcomes.specs.Start.{Handed, picture_checks}
use Rattle.run_outcomes.specs.Band.{State}
use Rattle.run_outcomes.specs.Result.{ResultOutcome, result_outcome}
use Rattle.run_calls.specs.Calls.{StartAccepted, start_state, Calls, library_calls, end, Unaltered}
use Rattle.run_calls.specs.Places.{Clear, input_at, sample_at, sigma_at, result_at}

-- start with these arguments would not be refused under 4 to 9
abbrev pub Unrefused : Handed → Type 0
Unrefused h = first_of (picture_checks h) ≡ 0

-- the block sigmas agree at each position of the smaller filter region
abbrev pub SigmasAgree : Handed → Handed → Type 0
SigmasAgree small large = (x y : ℤ) → Holds small.setup.filter x y → sigma_at small x y ≡ sigma_at large x y

-- What block sigmas come from is equal (Specification 7.6): the frame, the presence of each group's grid, the sides of those that are present,
-- the grids and `sigma_for_modular`. The sides of an absent grid may be anything.
pub record SameSources (small large : Handed) : Type 0 where
  pub same-frame : small.frame ≡ large.frame
  pub same-presence : (g : ℕ) → g < (sizes_of small.frame).num_groups → present small.table g ≡ present large.table g
  pub same-sides : (g : ℕ) → g < (sizes_of small.frame).num_groups → T (present small.table g)
      → (grid_width small.table g ≡ grid_width large.table g) × (grid_height small.table g ≡ grid_height large.table g)
  pub same-grids : small.grids ≡ large.grids
  pub same-modular : small.setup.settings.epf.sigma_for_modular ≡ large.setup.settings.epf.sigma_for_modular

-- A smaller picture is cut from a larger one; each is given by the arguments of its start. `Alike` is what is asked of both if the EPF is
-- on: `SigmasAgree` or `SameSources`.
pub record CutWith (Alike : Handed → Handed → Type 0) (small large : Handed) : Type 0 where
  -- the larger one would not be refused, and its filter region contains the smaller one's
  pub unrefused : Unrefused large
  pub contained : T (inside large.setup.filter small.setup.filter)
  -- Both have the same passes, and the settings agree in all that these read. So both have the same number of planes, unless there is no pass:
  -- then the numbers may differ, and a plane that the larger picture lacks is read as NaN.
  pub same-passes : passes_of small.setup ≡ passes_of large.setup
  -- the inputs agree in each plane, at each position of the smaller filter region
  pub inputs-agree : (c : ℕ) (x y : ℤ) → c < small.setup.planes → Holds small.setup.filter x y → input_at small c x y ≡ input_at large c x y
  -- If the EPF is on, the block sigmas agree there, or their sources are equal. Both filter regions start at multiples of 8 then: the larger
  -- one would not be refused under 6, nor is the smaller one, whose start is accepted.
  pub sigmas-alike : T (epf_on small.setup) → Alike small large

abbrev pub CutFrom : Handed → Handed → Type 0
CutFrom = CutWith SigmasAgree

abbrev pub CutFromSources : Handed → Handed → Type 0
CutFromSources = CutWith SameSources

-- equal sources give equal block sigmas
abbrev pub SourcesGiveSigmas : Type 0
SourcesGiveSigmas = (small large : Handed) → Unrefused small → CutFromSources small large → CutFrom small large

-- the result call on a state, with a slice
abbrev pub result_on : State → List Float → ResultOutcome
result_on t out = result_outcome t.run t.first t.second out

-- the result is accepted, and each filtered sample that is clear of the cut edges by m is the larger picture's smoothed sample
pub record DeliversBeyond (m : ℕ) (small large : Handed) (result : ResultOutcome) : Type 0 where
  pub accepted : result.number ≡ 0
  pub samples : (c : ℕ) (x y : ℤ) → c < small.setup.planes → Holds small.setup.filter x y → Clear m small.setup.filter large.setup.filter x y
      → result_at small.setup result.out c x y ≡ sample_at large c x y

-- clear by the margin
abbrev pub Delivers : Handed → Handed → ResultOutcome → Type 0
Delivers small large result = DeliversBeyond (margin small.setup.settings) small large result

-- K is the kind of calls: `library_calls` in Specification 13.6. The number of planes is that of each setup, so each theorem is one statement
-- for grey pictures and for those of three planes.
module _ (K : Calls) where
  -- the result call on the state after a start and a list of calls, with a slice
  abbrev pub result_after : Handed → List K.Call → List Float → ResultOutcome
  result_after h cs out = result_on (end K (start_state h) cs) out

  -- The premises of the theorem: of a smaller and a larger picture, a list of calls and a slice, in the Specification's order.
  pub record PremisesWith (Alike : Handed → Handed → Type 0) (small large : Handed) (cs : List K.Call) (out : List Float) : Type 0 where
    pub start-accepted : StartAccepted small
    pub cut-from-larger : CutWith Alike small large
    pub buffers-unaltered : Unaltered K (start_state small) cs
    pub run-finished : T (finished (end K (start_state small) cs).run)
    pub slice_fits : length out ≡ result_length small.setup

  abbrev pub Premises : Handed → Handed → List K.Call → List Float → Type 0
  Premises = PremisesWith SigmasAgree

  -- the theorem of pictures whose block sigmas agree
  abbrev pub RectangleTheorem : Type 0
  RectangleTheorem = (small large : Handed) (cs : List K.Call) (out : List Float) → Premises small large cs out → Delivers small large (result_after small cs out)

  -- the theorem of pictures with equal sources of block sigmas
  abbrev pub SourcesTheorem : Type 0
  SourcesTheorem = (small large : Handed) (cs : List K.Call) (out : List Float) → PremisesWith SameSources small large cs out
      → Delivers small large (result_after small cs out)

-- the theorem of Specification 13.6: the calls of 13.7
abbrev pub LibraryTheorem : Type 0
LibraryTheorem = RectangleTheorem library_calls

-- the theorem of Specification 13.6 from equal sources: the calls of 13.7
abbrev pub LibrarySourcesTheorem : Type 0
LibrarySourcesTheorem = SourcesTheorem library_calls
