-- The premises of the theorem on rectangles (Specification 13.6) hold for the pictures and calls of specs/Example.antt. Assumes nothing.
use mathlib.Core.Path.{◌≡◌, refl, sym, ◌∙◌}
use mathlib.Core.Bool.{Bool, true, false, ◌||◌}
use mathlib.Core.Logic.{◌⊎◌, inl, inr}
use mathlib.Core.List.{List}
use Prim.Native.Nat.{ℕ, suc, ◌+◌, ◌<◌}
use native.Mathlib.Omega.{arith}
use borrow.Author.Tests.{eqb-true}
use lib.Dec.{T, eqb}
use lib.ListN.{length}
use lib.IntN.{ℤ, pos, negsuc, nat_abs, ◌-ℤ◌}
use lib.Ieee.{Float}
use Rattle.region_interval.proofs.Positions.{offset-below, offsets-add}
use Rattle.region.specs.Regions.{inside, Holds}
use Rattle.region.specs.Measures.{bounds_fit, picture_fits}
use Rattle.region_axis.specs.Measures.{corner_fits, side_fits}
use Rattle.frame.specs.Sizes.{sizes_of}
use Rattle.sigma_grids.specs.Table.{bad_grid, cells, grid_start, some_below}
use Rattle.frame.specs.Outcome.{bad_sides, bad_settings}
use Rattle.sigma_groups.specs.Outcome.{table_fits, grids_fit}
use Rattle.planes_layout.specs.Outcome.{layout_of}
use Rattle.planes.specs.Picture.{Picture}
use Rattle.planes.specs.Sets.{set_of, tab}
use Rattle.planes.proofs.SetLaws.{of-set_of}
use Rattle.planes.specs.Band.{inner, planes_fit}
use Rattle.refusals.proofs.Tables.{is_true}
use Rattle.run_passes.specs.Plan.{plan, steps, step_margin}
use Rattle.run_setup.specs.Setup.{passes_of, result_length, band_count, numbers_fit, setup_fits, size_fits}
use Rattle.run_record.specs.Record.{finished, is_done, started, marked, advanced, band_missing, bad_done, bands_left_in, count_below, run_fits}
use Rattle.run_outcomes.specs.Start.{picture_checks, start_checks, start_leaves, sigmas_filled, start_outcome}
use Rattle.run_outcomes.specs.Band.{band_checks, band_outcome, advance_outcome}
use Rattle.run_calls.specs.Calls.{StartAccepted, library_calls, start_state, state_after, end, Unaltered}
use Rattle.run_calls.specs.Places.{input_at}
use Rattle.run_calls.specs.Theorem.{CutFrom, Unrefused, Premises}
use Rattle.run_calls.specs.Example.{UnlikeSourcesMet, larger, smaller, calls, slice, PremisesMet, PlaceClear}

-- one plane or three
either : (n : ℕ) → T (planes_fit n) → (n ≡ 1) ⊎ (n ≡ 3)
either n t = go (eqb n 1) refl (is_true (planes_fit n) t)
  where
    go : (b : Bool) → eqb n 1 ≡ b → (b || eqb n 3) ≡ true → (n ≡ 1) ⊎ (n ≡ 3)
    go true one e = inl (eqb-true n 1 one)
    go false one e = inr (eqb-true n 3 e)

module _ (p : Picture) (weights : List (List Float)) where
  accepted : (n : ℕ) → (n ≡ 1) ⊎ (n ≡ 3) → StartAccepted (smaller n p weights)
  unfolding start_outcome start_checks picture_checks picture_fits bounds_fit corner_fits side_fits inside bad_sides bad_settings sizes_of table_fits grids_fit grid_start cells some_below bad_grid band_count layout_of set_of tab
  accepted n (inl e) = rw e refl
  accepted n (inr e) = rw e refl

  unrefused : (n : ℕ) → (n ≡ 1) ⊎ (n ≡ 3) → Unrefused (larger n p weights)
  unfolding picture_checks picture_fits bounds_fit corner_fits side_fits inside bad_sides bad_settings sizes_of table_fits grids_fit grid_start cells some_below bad_grid band_count layout_of set_of tab
  unrefused n (inl e) = rw e refl
  unrefused n (inr e) = rw e refl

  passes : (n : ℕ) → (n ≡ 1) ⊎ (n ≡ 3) → passes_of (smaller n p weights).setup ≡ passes_of (larger n p weights).setup
  unfolding plan steps
  passes n (inl e) = rw e refl
  passes n (inr e) = rw e refl

  inputs : (n c : ℕ) (x y : ℤ) → c < n → Holds (smaller n p weights).setup.filter x y → input_at (smaller n p weights) c x y ≡ input_at (larger n p weights) c x y
  unfolding start_leaves inner layout_of
  inputs n c x y h held =
      let column : nat_abs (x -ℤ pos 0) < 3 = offset-below (pos 0) 3 x held.column in
      let row : nat_abs (y -ℤ pos 0) < 1 = offset-below (pos 0) 1 y held.row in
      let further : nat_abs (x -ℤ negsuc 0) ≡ 1 + nat_abs (x -ℤ pos 0) = offsets-add (pos 0) (negsuc 0) x tt held.column.from in
      let e : 0 + nat_abs (x -ℤ negsuc 0) ≡ suc (0 + nat_abs (x -ℤ pos 0)) = omega arith in
      of-set_of n 3 1 _ c (0 + nat_abs (x -ℤ pos 0)) (0 + nat_abs (y -ℤ pos 0)) h (omega arith) (omega arith)
      ∙ rw e (sym (of-set_of n 4 1 p c (suc (0 + nat_abs (x -ℤ pos 0))) (0 + nat_abs (y -ℤ pos 0)) h (omega arith) (omega arith)))

  from : (n : ℕ) → (n ≡ 1) ⊎ (n ≡ 3) → CutFrom (smaller n p weights) (larger n p weights)
  unfolding inside
  from n e = record { unrefused = unrefused n e; contained = tt; same-passes = passes n e; inputs-agree = inputs n; sigmas-alike = λ on. absurd on }

  -- what is left, which computes for a given number of planes
  record Rest (n : ℕ) : Type 0 where
    unaltered : Unaltered library_calls (start_state (smaller n p weights)) (calls n p weights)
    ended : T (finished (end library_calls (start_state (smaller n p weights)) (calls n p weights)).run)
    room : length (slice n p weights) ≡ result_length (smaller n p weights).setup

  rest : (n : ℕ) → (n ≡ 1) ⊎ (n ≡ 3) → Rest n
  unfolding start_outcome start_leaves band_outcome advance_outcome start_checks picture_checks bad_sides bad_settings sizes_of table_fits grids_fit grid_start cells bad_grid sigmas_filled state_after end started marked advanced band_checks run_fits bad_done bands_left_in count_below band_missing is_done numbers_fit setup_fits band_count size_fits some_below picture_fits bounds_fit corner_fits side_fits inside layout_of plan steps set_of tab
  rest n (inl e) = rw e (record { unaltered = (λ e. refl, (λ e. absurd (omega (arith, e)), (λ e. absurd (omega (arith, e)), (λ e. refl, tt)))); ended = tt; room = refl })
  rest n (inr e) = rw e (record { unaltered = (λ e. refl, (λ e. absurd (omega (arith, e)), (λ e. absurd (omega (arith, e)), (λ e. refl, tt)))); ended = tt; room = refl })

  premises : (n : ℕ) → (n ≡ 1) ⊎ (n ≡ 3) → Premises library_calls (smaller n p weights) (larger n p weights) (calls n p weights) (slice n p weights)
  premises n e = record {
    start-accepted = accepted n e;
    cut-from-larger = from n e;
    buffers-unaltered = (rest n e).unaltered;
    run-finished = (rest n e).ended;
    slice_fits = (rest n e).room;
  }

pub premises-met : PremisesMet
premises-met n t p weights = premises p weights n (either n t)

pub place-clear : PlaceClear
unfolding step_margin
place-clear n p weights = (
  record { column = record { from = tt; before = tt }; row = record { from = tt; before = tt } },
  record { left = λ f. tt; right = λ f. tt; top = λ f. absurd (f refl); bottom = λ f. absurd (f refl) },
)

pub unlike-sources-met : UnlikeSourcesMet
unlike-sources-met n t p weights =
    let m = premises-met n t p weights in
    record {
      start-accepted = m.start-accepted;
      cut-from-larger = record {
        unrefused = m.cut-from-larger.unrefused;
        contained = m.cut-from-larger.contained;
        same-passes = m.cut-from-larger.same-passes;
        inputs-agree = m.cut-from-larger.inputs-agree;
        sigmas-alike = λ on. absurd on;
      };
      buffers-unaltered = m.buffers-unaltered;
      run-finished = m.run-finished;
      slice_fits = m.slice_fits;
    }
