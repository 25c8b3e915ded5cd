-- A second example, with the EPF: one iteration, Gabor off. Settings that no pass reads differ, and so do image regions,
-- `preserve_outside` and the sides of an absent grid. Definitions only.
use Rattle.std.specs.Prelude.{List, [], ◌∷◌, ℕ, ◌+◌, pos, Float}
use Rattle.region.specs.declared.Region.{Region}
use Rattle.region.specs.Regions.{Holds}
use Rattle.planes.specs.Samples.{b0, b1}
use Rattle.planes.specs.Picture.{Picture}
use Rattle.planes.specs.Sets.{set_of}
use Rattle.run_passes.specs.declared.Settings.{Settings}
use Rattle.run_passes.specs.Makers.{gabor_of, even_weights, epf_sigma_of, epf_of, no_settings, with_gabor, with_epf}
use Rattle.run_passes.specs.Plan.{margin}
use Rattle.run_setup.specs.Makers.{setup_with}
use Rattle.run_record.specs.Record.{started, marked}
use Rattle.run_outcomes.specs.Start.{Handed}
use Rattle.run_calls.specs.Calls.{start_state, LibraryCall, band, advance, library_calls}
use Rattle.run_calls.specs.Places.{Clear}
use Rattle.run_calls.specs.Theorem.{Premises}

module _ (p : Picture) (scales : List Float) (border sigma : Float) where
  -- `unread` is in the fields that one iteration without Gabor does not read
  abbrev settings_of : Float → Settings
  settings_of unread = with_gabor (gabor_of 0 (even_weights unread unread)) (with_epf (epf_of 1 scales (epf_sigma_of unread unread unread border) sigma) no_settings)

  -- two rows
  abbrev rows_from : ℕ → ℕ → Region
  rows_from left width = record { left = pos left; top = pos 0; width = width; height = 2 }

  -- columns 0 to 11; the filter region is the image region. No group has a grid, so each block has `sigma_for_modular`.
  abbrev pub larger : Handed
  larger = record {
    setup = setup_with (rows_from 0 12) (rows_from 0 12) 3 0 (settings_of b0) 64;
    frame = record { width = 12; height = 2; upsampling = 1; lf_level = 0; group_size_shift = 0 };
    table = 0 ∷ 0 ∷ 0 ∷ [];
    grids = [];
    first = set_of 3 12 2 p;
    second = set_of 3 12 2 (λ c x y. b0);
    sigmas = b0 ∷ b0 ∷ [];
  }

  -- columns 8 to 11 of it in an image region of columns 7 to 11: the left edge of the filter region is cut
  abbrev pub smaller : Handed
  smaller = record {
    setup = setup_with (rows_from 7 5) (rows_from 8 4) 3 1 (settings_of b1) 2;
    frame = record { width = 12; height = 2; upsampling = 1; lf_level = 0; group_size_shift = 0 };
    table = 0 ∷ 5 ∷ 5 ∷ [];
    grids = [];
    first = set_of 3 5 2 (λ c x y. p c (7 + x) y);
    second = set_of 3 5 2 (λ c x y. b0);
    sigmas = b0 ∷ [];
  }

  abbrev pub calls : List LibraryCall
  calls = band (start_state smaller) 0 ∷ advance (marked (started smaller.setup) 0) ∷ []

  abbrev pub slice : List Float
  slice = set_of 3 5 2 (λ c x y. b0)

abbrev pub EdgePremisesMet : Type 0
EdgePremisesMet = (p : Picture) (scales : List Float) (border sigma : Float)
    → Premises library_calls (smaller p scales border sigma) (larger p scales border sigma) (calls p scales border sigma) (slice p scales border sigma)

-- column 10 is clear of the cut edge, column 9 is not
abbrev pub EdgePlaceClear : Type 0
EdgePlaceClear = (p : Picture) (scales : List Float) (border sigma : Float)
    → let s = (smaller p scales border sigma).setup in
    let l = (larger p scales border sigma).setup in
    Holds s.filter (pos 10) (pos 0) × Clear (margin s.settings) s.filter l.filter (pos 10) (pos 0) × (Clear (margin s.settings) s.filter l.filter (pos 9) (pos 0) → ⊥)
