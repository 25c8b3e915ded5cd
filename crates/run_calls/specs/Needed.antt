-- Each premise of the theorem on rectangles is needed (Specification 13.9): without it, or with a margin one smaller, the theorem is false.
-- Two premises say more than the proof uses: the arguments of an accepted result among the calls do not matter, since it leaves the state
-- unchanged; and of the larger picture's numbers 4 to 9 only 6 matters. Statements only.
use Rattle.std.specs.Prelude.{◌≡◌, ◌↔◌, List, ◌∷◌, ℕ, suc, ◌<◌, T, ℤ, pos, length, set, Float}
use Rattle.region.specs.declared.Region.{Region}
use Rattle.region.specs.Regions.{inside, Holds}
use Rattle.frame.specs.Sizes.{sizes_of}
use Rattle.sigma_grids.specs.Table.{present, grid_width, grid_height}
use Rattle.run_passes.specs.Plan.{margin}
use Rattle.run_setup.specs.Setup.{passes_of, epf_on, result_length}
use Rattle.run_record.specs.Record.{finished}
use Rattle.run_outcomes.specs.Start.{Handed}
use Rattle.run_outcomes.specs.Band.{State}
use Rattle.run_calls.specs.Calls.{StartAccepted, start_state, LibraryCall, band, library_calls, state_after, end, Unaltered}
use Rattle.run_calls.specs.Places.{input_at, sigma_at}
use Rattle.run_calls.specs.Theorem.{Unrefused, SigmasAgree, SameSources, Delivers, DeliversBeyond, PremisesWith, Premises, result_after}

-- ---- the premises one by one

-- named after the fields of `PremisesWith` and, for those about the larger picture, of `CutWith`
pub data Premise : Type 0 where
  start-accepted unrefused contained same-passes inputs-agree sigmas-alike buffers-unaltered run-finished slice_fits : Premise

-- each premise, of a smaller and a larger picture, a list of the library's calls and a slice
abbrev pub Says : Premise → Handed → Handed → List LibraryCall → List Float → Type 0
Says start-accepted small large cs out = StartAccepted small
Says unrefused small large cs out = Unrefused large
Says contained small large cs out = T (inside large.setup.filter small.setup.filter)
Says same-passes small large cs out = passes_of small.setup ≡ passes_of large.setup
Says inputs-agree small large cs out = (c : ℕ) (x y : ℤ) → c < small.setup.planes → Holds small.setup.filter x y → input_at small c x y ≡ input_at large c x y
Says sigmas-alike small large cs out = T (epf_on small.setup) → SigmasAgree small large
Says buffers-unaltered small large cs out = Unaltered library_calls (start_state small) cs
Says run-finished small large cs out = T (finished (end library_calls (start_state small) cs).run)
Says slice_fits small large cs out = length out ≡ result_length small.setup

-- together they are the premises of the theorem
abbrev pub PremisesSay : Type 0
PremisesSay = (small large : Handed) (cs : List LibraryCall) (out : List Float)
    → Premises library_calls small large cs out ↔ ((p : Premise) → Says p small large cs out)

-- the theorem on rectangles with another condition in place of one premise
abbrev pub TheoremBut : Premise → (Handed → Handed → List LibraryCall → List Float → Type 0) → Type 0
TheoremBut q Instead = (small large : Handed) (cs : List LibraryCall) (out : List Float)
    → ((p : Premise) → (p ≡ q → ⊥) → Says p small large cs out) → Instead small large cs out
    → Delivers small large (result_after library_calls small cs out)

-- without any one of the premises the theorem is false
abbrev pub EachNeeded : Type 0
EachNeeded = (q : Premise) → TheoremBut q (λ small large cs out. Unit {0}) → ⊥

-- with equal sources of block sigmas too, it is needed that the larger picture would not be refused
abbrev pub UnrefusedNeeded : Type 0
UnrefusedNeeded = TheoremBut unrefused (λ small large cs out. SameSources small large) → ⊥

-- ---- the margin

-- if the margin is m + 1, being clear by m is not enough, even with equal sources of block sigmas
abbrev pub MarginNeeded : ℕ → Type 0
MarginNeeded m = ((small large : Handed) (cs : List LibraryCall) (out : List Float) → margin small.setup.settings ≡ suc m
    → PremisesWith library_calls SameSources small large cs out → DeliversBeyond m small large (result_after library_calls small cs out)) → ⊥

-- the Gabor-like filter alone has margin 1
abbrev pub GaborMarginNeeded : Type 0
GaborMarginNeeded = MarginNeeded 0

-- one iteration alone has margin 2
abbrev pub StepMarginNeeded : Type 0
StepMarginNeeded = MarginNeeded 1

-- ---- one sample, one block

-- inputs agree except in the first channel at column 1 and row 0
abbrev pub OneInputUnlike : Handed → Handed → List LibraryCall → List Float → Type 0
OneInputUnlike small large cs out = (c : ℕ) (x y : ℤ) → c < small.setup.planes → Holds small.setup.filter x y → ((c ≡ 0) × (x ≡ pos 1) × (y ≡ pos 0) → ⊥)
    → input_at small c x y ≡ input_at large c x y

abbrev pub InputsNeeded : Type 0
InputsNeeded = TheoremBut inputs-agree OneInputUnlike → ⊥

abbrev pub block : Region
block = record { left = pos 8; top = pos 0; width = 8; height = 8 }

-- sigmas agree except in the block at column 8 and row 0
abbrev pub OneSigmaUnlike : Handed → Handed → List LibraryCall → List Float → Type 0
OneSigmaUnlike small large cs out = (x y : ℤ) → Holds small.setup.filter x y → (Holds block x y → ⊥) → sigma_at small x y ≡ sigma_at large x y

abbrev pub SigmasNeeded : Type 0
SigmasNeeded = TheoremBut sigmas-alike OneSigmaUnlike → ⊥

-- ---- the sources of block sigmas

-- each of them, named after the fields of `SameSources`
pub data Source : Type 0 where
  same-frame same-presence same-sides same-grids same-modular : Source

abbrev pub SourceSays : Source → Handed → Handed → Type 0
SourceSays same-frame small large = small.frame ≡ large.frame
SourceSays same-presence small large = (g : ℕ) → g < (sizes_of small.frame).num_groups → present small.table g ≡ present large.table g
SourceSays same-sides small large = (g : ℕ) → g < (sizes_of small.frame).num_groups → T (present small.table g)
    → (grid_width small.table g ≡ grid_width large.table g) × (grid_height small.table g ≡ grid_height large.table g)
SourceSays same-grids small large = small.grids ≡ large.grids
SourceSays same-modular small large = small.setup.settings.epf.sigma_for_modular ≡ large.setup.settings.epf.sigma_for_modular

-- together they are what the theorem from equal sources asks of these
abbrev pub SourcesSay : Type 0
SourcesSay = (small large : Handed) → SameSources small large ↔ ((s : Source) → SourceSays s small large)

-- all sources but one are equal
abbrev pub SourcesBut : Source → Handed → Handed → Type 0
SourcesBut q small large = (s : Source) → (s ≡ q → ⊥) → SourceSays s small large

-- with any one of them left out, the theorem is false
abbrev pub EachSourceNeeded : Type 0
EachSourceNeeded = (q : Source) → ((small large : Handed) (cs : List LibraryCall) (out : List Float)
    → PremisesWith library_calls (SourcesBut q) small large cs out → Delivers small large (result_after library_calls small cs out)) → ⊥

-- the state with another sample at index 1 of the first set: the first channel, column 1 of the image region
abbrev pub altered : Float → State → State
altered v t = record { run = t.run; sigmas = t.sigmas; first = set t.first 1 v; second = t.second }

-- the first call is a band that is given such a state; the calls after it are unaltered
pub record OneSampleAltered (small large : Handed) (cs : List LibraryCall) (out : List Float) : Type 0 where
  pub sample : Float
  pub number : ℕ
  pub later : List LibraryCall
  pub calls : cs ≡ band (altered sample (start_state small)) number ∷ later
  pub then-unaltered : Unaltered library_calls (state_after library_calls (start_state small) (band (altered sample (start_state small)) number)) later

abbrev pub UnalteredNeeded : Type 0
UnalteredNeeded = TheoremBut buffers-unaltered OneSampleAltered → ⊥
