-- The premises of the theorem on rectangles (Specification 13.6) hold for the pictures and calls of specs/EdgeExample.antt. Assumes nothing.
use mathlib.Core.Path.{◌≡◌, refl, sym, ap, subst, ◌∙◌}
use mathlib.Core.List.{List, [], ◌∷◌}
use Prim.Native.Nat.{ℕ, zero, suc, ◌+◌, ◌/◌, ◌<◌}
use native.Mathlib.Omega.{arith}
use lib.Dec.{T}
use lib.IntN.{ℤ, pos, nat_abs, ◌-ℤ◌}
use lib.Ieee.{Float}
use Rattle.region_interval.proofs.Positions.{offset-below, offsets-add}
use Rattle.region.specs.Regions.{inside, Holds}
use Rattle.region.specs.Measures.{bounds_fit, picture_fits}
use Rattle.region_axis.specs.Measures.{corner_fits, side_fits}
use Rattle.frame.specs.Sizes.{sizes_of}
use Rattle.sigma_grids.specs.Table.{present, grid_width, grid_height, bad_grid, cells, grid_start, grid_lacks_block, some_below}
use Rattle.sigma_groups.specs.Held.{not_held, some_not_held}
use Rattle.frame.specs.Outcome.{bad_sides, bad_settings}
use Rattle.sigma_groups.specs.Outcome.{table_fits, grids_fit}
use Rattle.sigma.specs.Sigma.{sigma_in, frame_sigma, block_sigma, block_sigmas}
use Rattle.planes_layout.specs.Outcome.{layout_of}
use Rattle.planes.specs.Picture.{Picture}
use Rattle.planes.specs.Sets.{set_of, tab}
use Rattle.planes.proofs.SetLaws.{of-set_of}
use Rattle.planes.specs.Band.{inner}
use Rattle.run_passes.specs.Plan.{plan, steps, step_of, scale_of, step_margin}
use Rattle.run_setup.specs.Setup.{band_count, numbers_fit, setup_fits, size_fits}
use Rattle.run_record.specs.Record.{is_done, started, marked, advanced, band_missing, finished, bad_done, bands_left_in, count_below, run_fits}
use Rattle.run_outcomes.specs.Start.{picture_checks, start_checks, start_leaves, sigmas_filled, start_outcome}
use Rattle.run_outcomes.specs.Band.{State, band_checks, band_outcome, advance_outcome}
use Rattle.run_calls.specs.Calls.{StartAccepted, LibraryCall, band, advance, library_calls, state_after, end, Unaltered}
use Rattle.run_calls.specs.Places.{input_at, sigma_at}
use Rattle.run_calls.specs.Theorem.{SameSources, CutFrom, Unrefused, PremisesWith, Premises}
use Rattle.run_calls.specs.EdgeExample.{larger, smaller, calls, slice, EdgePremisesMet, EdgePlaceClear}
use Rattle.run_calls.proofs.Lists.{start-state}

module _ (p : Picture) (scales : List Float) (border sigma : Float) where
  accepted : StartAccepted (smaller p scales border sigma)
  unfolding start_outcome start_checks picture_checks picture_fits bounds_fit corner_fits side_fits inside bad_sides bad_settings sizes_of table_fits grids_fit grid_start cells some_below bad_grid some_not_held not_held grid_lacks_block band_count layout_of set_of tab
  accepted = refl

  unrefused : Unrefused (larger p scales border sigma)
  unfolding picture_checks picture_fits bounds_fit corner_fits side_fits inside bad_sides bad_settings sizes_of table_fits grids_fit grid_start cells some_below bad_grid some_not_held not_held grid_lacks_block band_count layout_of set_of tab
  unrefused = refl

  module _ (x y : ℤ) (held : Holds (smaller p scales border sigma).setup.filter x y) where
    column : nat_abs (x -ℤ pos 8) < 4
    column = offset-below (pos 8) 4 x held.column

    further : nat_abs (x -ℤ pos 0) ≡ 8 + nat_abs (x -ℤ pos 8)
    further = offsets-add (pos 8) (pos 0) x tt held.column.from

    row : nat_abs (y -ℤ pos 0) < 2
    row = offset-below (pos 0) 2 y held.row

    inputs : (c : ℕ) → c < 3 → input_at (smaller p scales border sigma) c x y ≡ input_at (larger p scales border sigma) c x y
    unfolding start_leaves inner layout_of
    inputs c h =
        let e : 7 + (1 + nat_abs (x -ℤ pos 8)) ≡ 0 + nat_abs (x -ℤ pos 0) = omega (arith, further) in
        of-set_of 3 5 2 _ c (1 + nat_abs (x -ℤ pos 8)) (0 + nat_abs (y -ℤ pos 0)) h (omega (arith, column)) (omega (arith, row))
        ∙ rw e (sym (of-set_of 3 12 2 p c (0 + nat_abs (x -ℤ pos 0)) (0 + nat_abs (y -ℤ pos 0)) h (omega (arith, column, further)) (omega (arith, row))))

    sigmas : sigma_at (smaller p scales border sigma) x y ≡ sigma_at (larger p scales border sigma) x y
    unfolding layout_of sigmas_filled block_sigmas tab block_sigma frame_sigma sigma_in sizes_of grid_start cells
    sigmas =
        let a : nat_abs (x -ℤ pos 8) / 8 ≡ 0 = omega (arith, column) in
        let b : nat_abs (x -ℤ pos 0) / 8 ≡ 1 = omega (arith, column, further) in
        let c : nat_abs (y -ℤ pos 0) / 8 ≡ 0 = omega (arith, row) in
        rw (a, b, c)

  from : CutFrom (smaller p scales border sigma) (larger p scales border sigma)
  unfolding inside plan steps step_of scale_of
  from = record { unrefused = unrefused; contained = tt; same-passes = refl; inputs-agree = λ c x y h held. inputs x y held c h; sigmas-alike = λ on x y held. sigmas x y held }

  -- the calls, from a state on
  abbrev after : State → List LibraryCall
  after t = band t 0 ∷ advance (marked (started (smaller p scales border sigma).setup) 0) ∷ []

  premises : Premises library_calls (smaller p scales border sigma) (larger p scales border sigma) (calls p scales border sigma) (slice p scales border sigma)
  unfolding start_leaves band_outcome advance_outcome sigmas_filled block_sigmas tab state_after end started marked advanced band_checks run_fits bad_done bands_left_in count_below band_missing is_done numbers_fit setup_fits band_count size_fits some_below picture_fits bounds_fit corner_fits side_fits inside layout_of plan steps set_of
  premises =
      let begins = sym (start-state (smaller p scales border sigma) accepted) in
      record {
        start-accepted = accepted;
        cut-from-larger = from;
        buffers-unaltered = subst (λ (t : State). Unaltered library_calls t (after t)) begins (λ e. refl, (λ e. refl, tt));
        run-finished = subst (λ (t : State). T (finished (end library_calls t (after t)).run)) begins tt;
        slice_fits = refl;
      }

pub edge-premises-met : EdgePremisesMet
edge-premises-met p scales border sigma = premises p scales border sigma

-- both have the same sources of block sigmas: no group has a grid
edge-presence : (p : Picture) (scales : List Float) (border sigma : Float) (k : ℕ) → k < (sizes_of (smaller p scales border sigma).frame).num_groups
    → present (smaller p scales border sigma).table k ≡ present (larger p scales border sigma).table k
unfolding sizes_of
edge-presence p scales border sigma zero l = refl
edge-presence p scales border sigma (suc k) l = absurd (omega arith)

edge-sides : (p : Picture) (scales : List Float) (border sigma : Float) (k : ℕ) → k < (sizes_of (smaller p scales border sigma).frame).num_groups → T (present (smaller p scales border sigma).table k)
    → (grid_width (smaller p scales border sigma).table k ≡ grid_width (larger p scales border sigma).table k)
    × (grid_height (smaller p scales border sigma).table k ≡ grid_height (larger p scales border sigma).table k)
unfolding sizes_of
edge-sides p scales border sigma zero l t = absurd t
edge-sides p scales border sigma (suc k) l t = absurd (omega arith)

pub edge-sources-met : (p : Picture) (scales : List Float) (border sigma : Float)
    → PremisesWith library_calls SameSources (smaller p scales border sigma) (larger p scales border sigma) (calls p scales border sigma) (slice p scales border sigma)
edge-sources-met p scales border sigma =
    let m = edge-premises-met p scales border sigma in
    record {
      start-accepted = m.start-accepted;
      cut-from-larger = record {
        unrefused = m.cut-from-larger.unrefused;
        contained = m.cut-from-larger.contained;
        same-passes = m.cut-from-larger.same-passes;
        inputs-agree = m.cut-from-larger.inputs-agree;
        sigmas-alike = λ on. record {
          same-frame = refl;
          same-presence = edge-presence p scales border sigma;
          same-sides = edge-sides p scales border sigma;
          same-grids = refl;
          same-modular = refl;
        };
      };
      buffers-unaltered = m.buffers-unaltered;
      run-finished = m.run-finished;
      slice_fits = m.slice_fits;
    }

pub edge-place-clear : EdgePlaceClear
unfolding step_margin
edge-place-clear p scales border sigma = (
  record { column = record { from = tt; before = tt }; row = record { from = tt; before = tt } },
  record { left = λ f. tt; right = λ f. absurd (f refl); top = λ f. absurd (f refl); bottom = λ f. absurd (f refl) },
  λ clear. clear.left (λ (e : pos 8 ≡ pos 0). omega (arith, ap nat_abs e)),
)
