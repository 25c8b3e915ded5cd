-- An example that meets the premises of the theorem on rectangles (Specification 13.6) with all four edges cut: both filters, two passes of
-- three bands each, sigmas from a grid, and different image regions with negative positions. `preserve_outside` is 1 for the smaller
-- picture and 0 for the larger one. The calls include a refused start and a refused call of another function. Definitions only.
use Rattle.std.specs.Prelude.{◌↔◌, List, [], ◌∷◌, ℕ, ◌+◌, T, ℤ, pos, negsuc, Float}
use Rattle.region.specs.declared.Region.{Region}
use Rattle.region.specs.Regions.{inside, Holds}
use Rattle.frame.specs.declared.Frame.{Frame}
use Rattle.planes.specs.Samples.{b0}
use Rattle.planes.specs.Picture.{Picture}
use Rattle.planes.specs.Sets.{set_of, tab}
use Rattle.run_passes.specs.declared.Settings.{Settings}
use Rattle.run_passes.specs.Makers.{gabor_of, epf_sigma_of, epf_of, no_settings, with_gabor, with_epf}
use Rattle.run_passes.specs.Plan.{margin}
use Rattle.run_setup.specs.Makers.{no_setup, setup_with}
use Rattle.run_outcomes.specs.Start.{Handed}
use Rattle.run_outcomes.specs.Band.{State}
use Rattle.run_calls.specs.Calls.{start_state, LibraryCall, band, advance, start, other, library_calls, state_after}
use Rattle.run_calls.specs.Places.{Clear}
use Rattle.run_calls.specs.Theorem.{SameSources, PremisesWith, Premises, Delivers, result_after}

-- any samples, any settings that are floats, any sigmas
pub record Given : Type 0 where
  pub picture : Picture
  pub weights : List (List Float)
  pub scales : List Float
  pub border : Float
  pub modular : Float
  pub grid : ℕ → Float

module _ (g : Given) where
  abbrev settings : Settings
  settings = with_gabor (gabor_of 1 g.weights) (with_epf (epf_of 1 g.scales (epf_sigma_of g.modular g.modular g.modular g.border) g.modular) no_settings)

  -- a frame of two groups, one above the other: the first has a grid of 3 × 3 cells, the second has none
  abbrev frame : Frame
  frame = record { width = 24; height = 1032; upsampling = 1; lf_level = 0; group_size_shift = 0 }

  -- columns and rows 0 to 23, in an image region of −1 to 24
  abbrev pub larger : Handed
  larger = record {
    setup = setup_with (record { left = negsuc 0; top = negsuc 0; width = 26; height = 26 }) (record { left = pos 0; top = pos 0; width = 24; height = 24 }) 3 0 settings 5;
    frame = frame;
    table = 1 ∷ 3 ∷ 3 ∷ 0 ∷ 5 ∷ 7 ∷ [];
    grids = tab 9 g.grid;
    first = set_of 3 26 26 g.picture;
    second = set_of 3 26 26 (λ c x y. b0);
    sigmas = tab 9 (λ i. b0);
  }

  -- columns and rows 8 to 15 of it, in an image region of 7 to 16; the result has ten rows, in bands of four
  abbrev pub smaller : Handed
  smaller = record {
    setup = setup_with (record { left = pos 7; top = pos 7; width = 10; height = 10 }) (record { left = pos 8; top = pos 8; width = 8; height = 8 }) 3 1 settings 4;
    frame = frame;
    table = 1 ∷ 3 ∷ 3 ∷ 0 ∷ 0 ∷ 9 ∷ [];
    grids = tab 9 g.grid;
    first = set_of 3 10 10 (λ c x y. g.picture c (8 + x) (8 + y));
    second = set_of 3 10 10 (λ c x y. b0);
    sigmas = tab 1 (λ i. b0);
  }

  -- a start that is refused (4), though it is given the sets of the run
  abbrev pub empty : Handed
  empty = record { setup = no_setup; frame = frame; table = []; grids = []; first = smaller.first; second = smaller.second; sigmas = smaller.sigmas }

  abbrev next : State → LibraryCall → State
  next t c = state_after library_calls t c

  -- the states in order
  abbrev pub begun : State
  begun = start_state smaller

  abbrev pub one : State
  one = next begun (band begun 2)

  abbrev pub two : State
  two = next one (band one 0)

  abbrev pub three : State
  three = next two (band two 1)

  abbrev pub turned : State
  turned = next three (advance three.run)

  abbrev pub four : State
  four = next turned (band turned 1)

  abbrev pub five : State
  five = next four (band four 2)

  abbrev pub six : State
  six = next five (band five 0)

  -- bands 2, 0 and 1 of the first pass; bands 1, 2 and 0 of the second
  abbrev pub accepted-calls : List LibraryCall
  accepted-calls = band begun 2 ∷ band one 0 ∷ band two 1 ∷ advance three.run ∷ band turned 1 ∷ band four 2 ∷ band five 0 ∷ advance six.run ∷ []

  abbrev pub calls : List LibraryCall
  calls = start empty ∷ other 9 ∷ accepted-calls

  abbrev pub slice : List Float
  slice = set_of 3 10 10 (λ c x y. b0)

abbrev pub FourEdgesMet : Type 0
FourEdgesMet = (g : Given) → Premises library_calls (smaller g) (larger g) (calls g) (slice g)

-- and with equal sources of block sigmas
abbrev pub FourEdgesSources : Type 0
FourEdgesSources = (g : Given) → PremisesWith library_calls SameSources (smaller g) (larger g) (calls g) (slice g)

-- columns and rows 11 and 12: three samples lie between them and each of the four edges
abbrev pub middle : Region
middle = record { left = pos 11; top = pos 11; width = 2; height = 2 }

-- These positions of the smaller filter region are clear of its cut edges by the margin, 3. No others are: columns and rows 10 and 13 are
-- not.
abbrev pub FourEdgesClear : Type 0
FourEdgesClear = (g : Given) → let small = (smaller g).setup in
    let large = (larger g).setup in
    T (inside small.filter middle) × ((x y : ℤ) → Clear (margin small.settings) small.filter large.filter x y ↔ Holds middle x y)

-- the theorem's conclusion for this example
abbrev pub FourEdgesDelivered : Type 0
FourEdgesDelivered = (g : Given) → Delivers (smaller g) (larger g) (result_after library_calls (smaller g) (calls g) (slice g))
