-- A smaller and a larger picture, of one plane or of three, and a list of calls that meet all premises of the theorem on rectangles
-- (Specification 13.6), whatever the samples and the weights. Definitions only.
use Rattle.std.specs.Prelude.{cond, List, [], ◌∷◌, ℕ, suc, eqb, T, get_or, ℤ, pos, negsuc, Float}
use Rattle.region.specs.declared.Region.{Region}
use Rattle.region.specs.Regions.{Holds}
use Rattle.planes.specs.Samples.{b0}
use Rattle.planes.specs.Picture.{Picture}
use Rattle.planes.specs.Sets.{set_of}
use Rattle.planes.specs.Band.{planes_fit}
use Rattle.run_passes.specs.Plan.{margin}
use Rattle.run_passes.specs.Makers.{gabor_of, no_settings, with_gabor}
use Rattle.run_setup.specs.declared.Setup.{Setup}
use Rattle.run_setup.specs.Makers.{setup_with}
use Rattle.run_record.specs.declared.Run.{Run}
use Rattle.run_record.specs.Record.{marked}
use Rattle.run_outcomes.specs.Start.{Handed}
use Rattle.run_outcomes.specs.Band.{State}
use Rattle.run_calls.specs.Calls.{start_state, LibraryCall, band, advance, library_calls}
use Rattle.run_calls.specs.Places.{Clear}
use Rattle.run_calls.specs.Theorem.{SameSources, PremisesWith, Premises}

module _ (planes : ℕ) (p : Picture) (weights : List (List Float)) where
  -- the first channel's weights, and those of two others, which one plane does not read
  abbrev weights_of : ℕ → ℕ → List (List Float)
  weights_of second third = get_or weights 0 [] ∷ get_or weights second [] ∷ get_or weights third [] ∷ []

  -- one row with the given left and width, Gabor alone, with `preserve_outside` and the band height
  abbrev setup_of : ℤ → ℕ → ℕ → List (List Float) → ℕ → Setup
  setup_of left width full channels height =
      let r : Region = record { left = left; top = pos 0; width = width; height = 1 } in
      setup_with r r planes full (with_gabor (gabor_of 1 channels) no_settings) height

  -- a frame of one group without a grid, of a given width
  abbrev handed_of : ℕ → Setup → List Float → List Float → Handed
  handed_of side s first second = record {
    setup = s;
    frame = record { width = side; height = 8; upsampling = 1; lf_level = 0; group_size_shift = 0 };
    table = 0 ∷ 0 ∷ 0 ∷ [];
    grids = [];
    first = first;
    second = second;
    sigmas = [];
  }

  -- columns −1 to 2
  abbrev pub larger : Handed
  larger = handed_of 8 (setup_of (negsuc 0) 4 1 (weights_of 1 2) 64) (set_of planes 4 1 p) (set_of planes 4 1 (λ c x y. b0))

  -- Columns 0 to 2 of it: the left edge is cut. In one plane the weights of the other channels are exchanged.
  abbrev pub smaller : Handed
  smaller = handed_of 16 (setup_of (pos 0) 3 0 (cond (eqb planes 1) (weights_of 2 1) (weights_of 1 2)) 1) (set_of planes 3 1 (λ c x y. p c (suc x) y)) (set_of planes 3 1 (λ c x y. b0))

  abbrev begun : State
  begun = start_state smaller

  -- the record after band 0
  abbrev done : Run
  done = marked begun.run 0

  -- Band 0; band 0 again, given the sets from before it (refused with 10); an advance that is given the record from before band 0 (refused
  -- with 11); the advance.
  abbrev pub calls : List LibraryCall
  calls =
      band begun 0
      ∷ band (record { run = done; sigmas = begun.sigmas; first = begun.first; second = begun.second }) 0
      ∷ advance begun.run
      ∷ advance done ∷ []

  abbrev pub slice : List Float
  slice = set_of planes 3 1 (λ c x y. b0)

-- the premises hold
abbrev pub PremisesMet : Type 0
PremisesMet = (n : ℕ) → T (planes_fit n) → (p : Picture) (weights : List (List Float))
    → Premises library_calls (smaller n p weights) (larger n p weights) (calls n p weights) (slice n p weights)

-- and those of the theorem from equal sources: these are not asked for with the EPF off, and the frames are unlike here
abbrev pub UnlikeSourcesMet : Type 0
UnlikeSourcesMet = (n : ℕ) → T (planes_fit n) → (p : Picture) (weights : List (List Float))
    → PremisesWith library_calls SameSources (smaller n p weights) (larger n p weights) (calls n p weights) (slice n p weights)

-- the theorem covers at least one position: column 1 is clear of the cut edge
abbrev pub PlaceClear : Type 0
PlaceClear = (n : ℕ) (p : Picture) (weights : List (List Float))
    → Holds (smaller n p weights).setup.filter (pos 1) (pos 0)
    × Clear (margin (smaller n p weights).setup.settings) (smaller n p weights).setup.filter (larger n p weights).setup.filter (pos 1) (pos 0)
