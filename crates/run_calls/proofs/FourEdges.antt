-- The pictures and calls of specs/FourEdges.antt meet the premises of the theorem on rectangles (Specification 13.6), and its conclusion
-- holds for them. Assumes nothing.
use mathlib.Core.Path.{◌≡◌, refl, sym, ap, subst, ◌∙◌}
use mathlib.Core.Bool.{true, false}
use mathlib.Core.Logic.{◌↔◌}
use mathlib.Core.List.{List, ◌∷◌}
use Prim.Native.Nat.{ℕ, zero, suc, ◌+◌, ◌<◌}
use native.Mathlib.Omega.{arith}
use borrow.Author.Tests.{eq-eqb, ne_eqb}
use lib.Dec.{T}
use lib.IntN.{ℤ, pos, nat_abs, ◌+ℤ◌, ◌-ℤ◌}
use lib.Signed.{lt_z}
use lib.Ieee.{Float}
use Rattle.region_interval.proofs.Order.{lt-to, lt_of, sum_is}
use Rattle.region_interval.proofs.Positions.{offset-below, offsets-add}
use Rattle.region.specs.Regions.{inside, Holds}
use Rattle.region.specs.Measures.{bounds_fit, picture_fits}
use Rattle.region_axis.specs.Measures.{corner_fits, side_fits}
use Rattle.frame.specs.Sizes.{sizes_of}
use Rattle.sigma_grids.specs.Table.{present, grid_width, grid_height, bad_grid, cells, grid_start, grid_lacks_block, some_below}
use Rattle.sigma_groups.specs.Held.{not_held, some_not_held}
use Rattle.frame.specs.Outcome.{bad_sides, bad_settings}
use Rattle.sigma_groups.specs.Outcome.{table_fits, grids_fit}
use Rattle.planes_layout.specs.Outcome.{layout_of}
use Rattle.planes.specs.Sets.{set_of, tab}
use Rattle.planes.proofs.SetLaws.{of-set_of}
use Rattle.planes.specs.Band.{inner}
use Rattle.run_passes.specs.Plan.{plan, steps, step_margin}
use Rattle.run_setup.specs.Setup.{band_count}
use Rattle.run_record.specs.declared.Run.{Run}
use Rattle.run_record.specs.Record.{is_done, started, marked, advanced, finished, band_missing, not_open, not_over}
use Rattle.run_record.proofs.Laws.{band-open, pass-over}
use Rattle.run_outcomes.specs.Start.{picture_checks, start_checks, start_leaves, start_outcome}
use Rattle.run_outcomes.specs.Band.{State}
use Rattle.run_outcomes.proofs.Laws.{band-number, band-leaves, band-accepted, advance-number, advance-leaves, advance-accepted}
use Rattle.run_calls.specs.Calls.{StartAccepted, LibraryCall, band, advance, start, other, answer, number_in, left_by, library_calls, state_after, end, Unaltered}
use Rattle.run_calls.proofs.Effects.{library_effect}
use Rattle.run_calls.specs.Places.{input_at}
use Rattle.run_calls.specs.Theorem.{Unrefused, SameSources, CutFromSources, PremisesWith}
use Rattle.run_calls.specs.FourEdges.{Given, larger, smaller, empty, begun, one, two, three, turned, four, five, six, accepted-calls, calls, slice, FourEdgesMet, FourEdgesSources, FourEdgesClear, FourEdgesDelivered}
use Rattle.run_calls.proofs.Sound.{Sound}
use Rattle.run_calls.proofs.Lists.{after_kept, start-state, start-sound}
use Rattle.run_calls.proofs.Theorem.{library-theorem, sources-premises}

-- ---- the calls

-- a state of the run that satisfies the invariant, with this record
record Here (first : List Float) (t : State) (r : Run) : Type 0 where
  sound : Sound first t
  run : t.run ≡ r

abbrev next : State → LibraryCall → State
next t c = state_after library_calls t c

after-accepted : (t : State) (c : LibraryCall) → number_in (answer c) ≡ 0 → next t c ≡ left_by t (answer c)
unfolding state_after
after-accepted t c e = rw (eq-eqb (number_in (answer c)) 0 e)

-- a band that can run
band-here : (first : List Float) (t : State) (r : Run) (k : ℕ) → Here first t r → not_open r k ≡ false → Here first (next t (band t k)) (marked r k)
band-here first t r k h o =
    let i = h.sound in
    let taken = band-number t k ∙ band-accepted t k i.first-length i.second-length i.sigma-length i.run (rw h.run (band-open r k o)) in
    record {
      sound = (after_kept library_calls library_effect first t (band t k) i (λ e. refl)).sound;
      run = ap (λ (u : State). u.run) (after-accepted t (band t k) taken ∙ band-leaves t k taken) ∙ ap (λ (q : Run). marked q k) h.run;
    }

-- an advance after all bands are done
advance-here : (first : List Float) (t : State) (r : Run) → Here first t r → not_over r ≡ false → Here first (next t (advance t.run)) (advanced r)
advance-here first t r h o =
    let i = h.sound in
    let taken = advance-number t.run ∙ advance-accepted t.run i.run (rw h.run (pass-over r o)) in
    record {
      sound = (after_kept library_calls library_effect first t (advance t.run) i (λ e. refl)).sound;
      run = ap (λ (u : State). u.run) (after-accepted t (advance t.run) taken) ∙ advance-leaves t.run taken ∙ ap advanced h.run;
    }

-- a refused call before a list
refused-first : (t : State) (c : LibraryCall) → (number_in (answer c) ≡ 0 → ⊥) → next t c ≡ t
unfolding state_after
refused-first t c e = rw (ne_eqb (number_in (answer c)) 0 e)

module _ (t : State) (c : LibraryCall) (cs : List LibraryCall) (e : number_in (answer c) ≡ 0 → ⊥) where
  unaltered-after : Unaltered library_calls t cs → Unaltered library_calls t (c ∷ cs)
  unaltered-after u = (λ z. absurd (e z), subst (λ (s : State). Unaltered library_calls s cs) (sym (refused-first t c e)) u)

  end_after : end library_calls t (c ∷ cs) ≡ end library_calls t cs
  unfolding end
  end_after = ap (λ (s : State). end library_calls s cs) (refused-first t c e)

module _ (g : Given) where
  accepted : StartAccepted (smaller g)
  unfolding start_outcome start_checks picture_checks picture_fits bounds_fit corner_fits side_fits inside bad_sides bad_settings sizes_of table_fits grids_fit grid_start cells some_below bad_grid some_not_held not_held grid_lacks_block band_count layout_of set_of tab
  accepted = refl

  unrefused : Unrefused (larger g)
  unfolding picture_checks picture_fits bounds_fit corner_fits side_fits inside bad_sides bad_settings sizes_of table_fits grids_fit grid_start cells some_below bad_grid some_not_held not_held grid_lacks_block band_count layout_of set_of tab
  unrefused = refl

  start-refused : (start_outcome (empty g)).answer.number ≡ 4
  unfolding start_outcome start_checks picture_checks picture_fits bounds_fit corner_fits side_fits
  start-refused = refl

  abbrev leaves : List Float
  leaves = start_leaves (smaller g)

  -- the records in order
  abbrev r0 : Run
  r0 = started (smaller g).setup

  abbrev r3 : Run
  r3 = marked (marked (marked r0 2) 0) 1

  abbrev r6 : Run
  r6 = marked (marked (marked (advanced r3) 1) 2) 0

  open-0 : (not_open r0 2 ≡ false) × (not_open (marked r0 2) 0 ≡ false) × (not_open (marked (marked r0 2) 0) 1 ≡ false) × (not_over r3 ≡ false)
  unfolding started marked is_done band_count layout_of band_missing some_below plan steps
  open-0 = (refl, refl, refl, refl)

  open-1 : (not_open (advanced r3) 1 ≡ false) × (not_open (marked (advanced r3) 1) 2 ≡ false) × (not_open (marked (marked (advanced r3) 1) 2) 0 ≡ false) × (not_over r6 ≡ false)
  unfolding started marked advanced is_done band_count layout_of band_missing some_below plan steps
  open-1 = (refl, refl, refl, refl)

  at-end : finished (advanced r6) ≡ true
  unfolding started marked advanced plan steps
  at-end = refl

  here-0 : Here leaves (begun g) r0
  here-0 = record { sound = start-sound (smaller g) accepted; run = ap (λ (t : State). t.run) (start-state (smaller g) accepted) }

  here-3 : Here leaves (three g) r3
  here-3 =
      band-here leaves (two g) (marked (marked r0 2) 0) 1
      (band-here leaves (one g) (marked r0 2) 0 (band-here leaves (begun g) r0 2 here-0 open-0.0) open-0.1) open-0.2

  here-4 : Here leaves (turned g) (advanced r3)
  here-4 = advance-here leaves (three g) r3 here-3 open-0.3

  here-6 : Here leaves (six g) r6
  here-6 =
      band-here leaves (five g) (marked (marked (advanced r3) 1) 2) 0
      (band-here leaves (four g) (marked (advanced r3) 1) 2 (band-here leaves (turned g) (advanced r3) 1 here-4 open-1.0) open-1.1) open-1.2

  ends : (end library_calls (begun g) (accepted-calls g)).run ≡ advanced r6
  unfolding end
  ends = (advance-here leaves (six g) r6 here-6 open-1.3).run

  -- ---- the two pictures

  module _ (x y : ℤ) (held : Holds (smaller g).setup.filter x y) where
    column : nat_abs (x -ℤ pos 8) < 8
    column = offset-below (pos 8) 8 x held.column

    further : nat_abs (x -ℤ pos 0) ≡ 8 + nat_abs (x -ℤ pos 8)
    further = offsets-add (pos 8) (pos 0) x tt held.column.from

    row : nat_abs (y -ℤ pos 8) < 8
    row = offset-below (pos 8) 8 y held.row

    lower : nat_abs (y -ℤ pos 0) ≡ 8 + nat_abs (y -ℤ pos 8)
    lower = offsets-add (pos 8) (pos 0) y tt held.row.from

    inputs : (c : ℕ) → c < 3 → input_at (smaller g) c x y ≡ input_at (larger g) c x y
    unfolding start_leaves inner layout_of
    inputs c h =
        let e : 8 + (1 + nat_abs (x -ℤ pos 8)) ≡ 1 + nat_abs (x -ℤ pos 0) = omega (arith, further) in
        let f : 8 + (1 + nat_abs (y -ℤ pos 8)) ≡ 1 + nat_abs (y -ℤ pos 0) = omega (arith, lower) in
        of-set_of 3 10 10 _ c (1 + nat_abs (x -ℤ pos 8)) (1 + nat_abs (y -ℤ pos 8)) h (omega (arith, column)) (omega (arith, row))
        ∙ rw (e, f) (sym (of-set_of 3 26 26 g.picture c (1 + nat_abs (x -ℤ pos 0)) (1 + nat_abs (y -ℤ pos 0)) h (omega (arith, column, further)) (omega (arith, row, lower))))

  presence : (k : ℕ) → k < (sizes_of (smaller g).frame).num_groups → present (smaller g).table k ≡ present (larger g).table k
  unfolding sizes_of
  presence zero l = refl
  presence (suc zero) l = refl
  presence (suc (suc k)) l = absurd (omega arith)

  sides : (k : ℕ) → k < (sizes_of (smaller g).frame).num_groups → T (present (smaller g).table k)
      → (grid_width (smaller g).table k ≡ grid_width (larger g).table k) × (grid_height (smaller g).table k ≡ grid_height (larger g).table k)
  unfolding sizes_of
  sides zero l t = (refl, refl)
  sides (suc zero) l t = absurd t
  sides (suc (suc k)) l t = absurd (omega arith)

  -- if the EPF is on, both have the same sources of block sigmas
  from : CutFromSources (smaller g) (larger g)
  unfolding inside
  from = record {
    unrefused = unrefused;
    contained = tt;
    same-passes = refl;
    inputs-agree = λ c x y h held. inputs x y held c h;
    sigmas-alike = λ on. record { same-frame = refl; same-presence = presence; same-sides = sides; same-grids = refl; same-modular = refl };
  }

  -- ---- all premises

  start-taken : number_in (answer (start (empty g))) ≡ 0 → ⊥
  start-taken e = omega (arith, sym start-refused ∙ e)

  other-taken : number_in (answer (other 9)) ≡ 0 → ⊥
  other-taken e = omega (arith, e)

  unaltered : Unaltered library_calls (begun g) (accepted-calls g)
  unaltered = (λ e. refl, (λ e. refl, (λ e. refl, (λ e. refl, (λ e. refl, (λ e. refl, (λ e. refl, (λ e. refl, tt))))))))

  premises : PremisesWith library_calls SameSources (smaller g) (larger g) (calls g) (slice g)
  unfolding layout_of set_of tab
  premises =
      let same = end_after (begun g) (start (empty g)) (other 9 ∷ accepted-calls g) start-taken ∙ end_after (begun g) (other 9) (accepted-calls g) other-taken in
      record {
        start-accepted = accepted;
        cut-from-larger = from;
        buffers-unaltered = unaltered-after (begun g) (start (empty g)) (other 9 ∷ accepted-calls g) start-taken (unaltered-after (begun g) (other 9) (accepted-calls g) other-taken unaltered);
        run-finished = subst (λ (r : Run). T (finished r)) (sym (ap (λ (t : State). t.run) same ∙ ends)) (rw at-end tt);
        slice_fits = refl;
      }

pub four-edges-sources : FourEdgesSources
four-edges-sources g = premises g

pub four-edges-met : FourEdgesMet
four-edges-met g = sources-premises library_calls (smaller g) (larger g) (calls g) (slice g) (premises g)

-- ---- the positions that are clear

-- all four edges are cut
starts_apart : pos 8 ≡ pos 0 → ⊥
starts_apart e = omega (arith, ap nat_abs e)

ends-apart : pos 16 ≡ pos 24 → ⊥
ends-apart e = omega (arith, ap nat_abs e)

-- three samples before 16
three-before : (x : ℤ) → T (lt_z (x +ℤ pos 3) (pos 16)) ↔ T (lt_z x (pos 13))
three-before x = (
  λ t. lt_of x (pos 13) (omega (arith, lt-to (x +ℤ pos 3) (pos 16) t, sum_is x (pos 3))),
  λ t. lt_of (x +ℤ pos 3) (pos 16) (omega (arith, lt-to x (pos 13) t, sum_is x (pos 3))),
)

pub four-edges-clear : FourEdgesClear
unfolding inside step_margin
four-edges-clear g = (
  tt,
  λ x y. (
    λ clear. record {
      column = record { from = clear.left starts_apart; before = (three-before x).0 (clear.right ends-apart) };
      row = record { from = clear.top starts_apart; before = (three-before y).0 (clear.bottom ends-apart) };
    },
    λ held. record {
      left = λ f. held.column.from;
      right = λ f. (three-before x).1 held.column.before;
      top = λ f. held.row.from;
      bottom = λ f. (three-before y).1 held.row.before;
    },
  ),
)

-- the theorem's conclusion
pub four-edges-delivered : FourEdgesDelivered
four-edges-delivered g = library-theorem (smaller g) (larger g) (calls g) (slice g) (four-edges-met g)
