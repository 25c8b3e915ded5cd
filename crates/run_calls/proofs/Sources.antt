-- Equal sources of block sigmas give equal block sigmas (Specification 7.6): the sigma of a block depends on the sources and on the block's
-- place in the frame, not on the filter region. Assumes nothing.
use mathlib.Core.Path.{◌≡◌, refl, sym, ◌∙◌}
use mathlib.Core.Bool.{Bool, true, false, cond}
use mathlib.Core.List.{◌∷◌}
use mathlib.Core.Logic.{inl, inr}
use Prim.Native.Nat.{ℕ, zero, suc, ◌+◌, ◌*◌, ◌/◌, ◌%◌, ◌<◌, ◌≤◌}
use native.Mathlib.Nat.{mul_comm}
use native.Mathlib.Omega.{arith}
use borrow.Author.Tests.{not-false, le-leb}
use lib.Arith.{digits_lt}
use lib.Dec.{T, ltb→lt, lt→ltb, eqb→eq}
use lib.Ieee.{nan}
use lib.ListN.{take, get_or}
use lib.Ieee.Fits.{and_l, and_r}
use lib.IntN.{ℤ, pos, negsuc, nat_abs, ◌-ℤ◌}
use lib.Signed.{le_z}
use Rattle.refusals.proofs.Rows.{here, below, row-passed}
use Rattle.refusals.proofs.Tables.{is_true, of-true}
use Rattle.region_interval.proofs.Order.{distance_is}
use Rattle.region_interval.proofs.Positions.{offset-below}
use Rattle.region.specs.Regions.{Holds}
use Rattle.region.proofs.Regions.{holds-in-larger}
use Rattle.region_placement.specs.Blocks.{on_block, clamp_to_zero}
use Rattle.planes_layout.specs.Outcome.{layout_of}
use Rattle.frame.specs.Sizes.{inner_of, sizes_of}
use Rattle.frame.specs.Outcome.{bad_sides, bad_settings}
use Rattle.sigma_grids.specs.Table.{present, grid_width, grid_height, cells, grid_start}
use Rattle.sigma_grids.proofs.Laws.{none_below}
use Rattle.sigma_groups.specs.Measures.{blocks_across, blocks_down}
use Rattle.sigma_groups.specs.Held.{group_at, some_not_held}
use Rattle.sigma_groups.specs.Outcome.{table_fits, frame_sides, table_length, frame_settings}
use Rattle.sigma_groups.proofs.Laws.{held}
use Rattle.sigma.specs.Sigma.{sigma_in, frame_sigma, block_sigma}
use Rattle.sigma.proofs.Laws.{sigmas-at}
use Rattle.run_passes.specs.declared.Settings.{Settings}
use Rattle.run_passes.specs.Pass.{gabor_like}
use Rattle.run_passes.specs.Near.{IsStep}
use Rattle.run_passes.specs.Cut.{SomeStep}
use Rattle.run_passes.specs.Plan.{gabor_on, steps, plan}
use Rattle.run_passes.proofs.Cut.{plan-some-step}
use Rattle.run_setup.specs.Setup.{passes_of, epf_on, iters_fit}
use Rattle.run_setup.specs.SetupFits.{SetupFits}
use Rattle.run_setup.proofs.Laws.{setup-fits}
use Rattle.run_outcomes.specs.Start.{Handed, blocks_of, blocks_held, picture_checks, sigmas_filled}
use Rattle.run_outcomes.proofs.Laws.{picture-fits}
use Rattle.run_calls.specs.Places.{sigma_at}
use Rattle.run_calls.specs.Theorem.{Unrefused, SameSources, SourcesGiveSigmas}

-- ---- a block's place in the frame

-- a filter region's start in blocks, and the blocks from there to a position: together that position's block in the frame
place : (a x : ℤ) → T (on_block a) → T (le_z a x) → clamp_to_zero a / 8 + nat_abs (x -ℤ a) / 8 ≡ nat_abs x / 8
place (pos i) (pos k) p h =
    let u : i % 8 ≡ 0 = eqb→eq (i % 8) 0 p in
    let w : nat_abs (pos k -ℤ pos i) + i ≡ k = omega (arith, distance_is (pos i) (pos k) h) in
    omega arith
place (pos i) (negsuc k) p h = absurd h
place (negsuc i) x p h = absurd p

-- The sigma at a position of the filter region is that of its block in the frame.
module _ (h : Handed) (u : Unrefused h) (on : T (epf_on h.setup)) (x y : ℤ) (inner : Holds h.setup.filter x y) where
  fits : SetupFits h.setup
  fits = setup-fits h.setup (picture-fits h u).setup

  abbrev bx : ℕ
  bx = nat_abs (x -ℤ h.setup.filter.left) / 8

  abbrev by : ℕ
  by = nat_abs (y -ℤ h.setup.filter.top) / 8

  bx_lt : bx < blocks_across (blocks_of h.setup)
  bx_lt = omega (arith, offset-below h.setup.filter.left h.setup.filter.width x inner.column)

  by_lt : by < blocks_down (blocks_of h.setup)
  by_lt = omega (arith, offset-below h.setup.filter.top h.setup.filter.height y inner.row)

  column : (blocks_of h.setup).left + bx ≡ nat_abs x / 8
  column = place h.setup.filter.left x (and_l (on_block h.setup.filter.left) (on_block h.setup.filter.top) (fits.blocks on)) inner.column.from

  row : (blocks_of h.setup).top + by ≡ nat_abs y / 8
  row = place h.setup.filter.top y (and_r (on_block h.setup.filter.left) (on_block h.setup.filter.top) (fits.blocks on)) inner.row.from

  placed : sigma_at h x y ≡ frame_sigma h.frame h.table h.grids h.setup.settings.epf.sigma_for_modular (nat_abs x / 8) (nat_abs y / 8)
  unfolding sigmas_filled layout_of block_sigma
  placed =
      rw (is_true (epf_on h.setup) on)
      (sigmas-at h.frame (blocks_of h.setup) h.table h.grids h.setup.settings.epf.sigma_for_modular bx by bx_lt by_lt
      ∙ rw (column, row))

  -- every block of the filter region is held,
  all_held : some_not_held h.frame (blocks_of h.setup) h.table ≡ false
  unfolding picture_checks
  all_held =
      let passed = row-passed (picture_checks h) tt u in
      let sides : bad_sides h.frame ≡ false = passed (frame_sides h.frame) (search (here, below) depth 20) in
      let settings : bad_settings h.frame ≡ false = passed (frame_settings h.frame) (search (here, below) depth 20) in
      let table : table_fits h.frame h.table ≡ true = not-false (table_fits h.frame h.table) (rw (sides, settings) at (passed (table_length h.frame h.table) (search (here, below) depth 20))) in
      let iters : iters_fit h.setup ≡ true = le-leb h.setup.settings.epf.iters 3 fits.iterations in
      rw (iters, is_true (epf_on h.setup) on, sides, settings, table) at (passed (blocks_held h) (search (here, below) depth 20))

  -- so the group of the block at this position is one of the frame's
  in_frame : group_at h.frame (nat_abs x / 8) (nat_abs y / 8) < (sizes_of h.frame).num_groups
  unfolding some_not_held sizes_of
  in_frame =
      let b = blocks_of h.setup in
      let across = none_below (blocks_down b) by _ all_held by_lt in
      let is = held h.frame h.table (nat_abs x / 8) (nat_abs y / 8) (rw (column, row) at (none_below (blocks_across b) bx _ across bx_lt)) in
      let e : (sizes_of h.frame).num_groups ≡ (sizes_of h.frame).groups_per_column * (sizes_of h.frame).groups_per_row = mul_comm _ _ in
      let l : group_at h.frame (nat_abs x / 8) (nat_abs y / 8) < (sizes_of h.frame).groups_per_column * (sizes_of h.frame).groups_per_row = digits_lt is.in-column is.in_row in
      rw e l

-- ---- equal sources

module _ (small large : Handed) (same : SameSources small large) where
  -- each group has as many cells in both tables, so its grid starts at the same cell
  same-cells : (g : ℕ) → g < (sizes_of small.frame).num_groups → cells small.table g ≡ cells large.table g
  unfolding cells
  same-cells g l = rw (← same.same-presence g l) (go (present small.table g) refl)
    where
      go : (b : Bool) → present small.table g ≡ b
          → cond b (grid_width small.table g * grid_height small.table g) 0 ≡ cond b (grid_width large.table g * grid_height large.table g) 0
      go true e = let sides = same.same-sides g l (of-true (present small.table g) e) in rw (sides.0, sides.1)
      go false e = refl

  same-start : (g : ℕ) → g ≤ (sizes_of small.frame).num_groups → grid_start small.table g ≡ grid_start large.table g
  unfolding grid_start
  same-start zero l = refl
  same-start (suc g) l = rw (same-start g (omega arith), same-cells g l)

  -- a cell of a group has the same sigma
  same-cell : (g column row : ℕ) → g < (sizes_of small.frame).num_groups
      → sigma_in small.table small.grids small.setup.settings.epf.sigma_for_modular g column row
      ≡ sigma_in large.table large.grids large.setup.settings.epf.sigma_for_modular g column row
  unfolding sigma_in
  same-cell g column row l = rw (← same.same-presence g l, ← same.same-grids, ← same.same-modular, ← same-start g (omega arith)) (go (present small.table g) refl)
    where
      go : (b : Bool) → present small.table g ≡ b
          → cond b (get_or small.grids (grid_start small.table g + (row * grid_width small.table g + column)) nan) small.setup.settings.epf.sigma_for_modular
          ≡ cond b (get_or small.grids (grid_start small.table g + (row * grid_width large.table g + column)) nan) small.setup.settings.epf.sigma_for_modular
      go true e = rw (same.same-sides g l (of-true (present small.table g) e)).0
      go false e = refl

  -- a block of the frame has the same sigma
  same-block : (bx by : ℕ) → group_at small.frame bx by < (sizes_of small.frame).num_groups
      → frame_sigma small.frame small.table small.grids small.setup.settings.epf.sigma_for_modular bx by
      ≡ frame_sigma large.frame large.table large.grids large.setup.settings.epf.sigma_for_modular bx by
  unfolding frame_sigma
  same-block bx by l =
      rw (← same.same-frame) (same-cell (group_at small.frame bx by) (inner_of bx small.frame.group_size_shift) (inner_of by small.frame.group_size_shift) l)

-- ---- both pictures have the EPF on, since they have the same passes

some-step : (n : ℕ) (s : Settings) (i : ℕ) → 0 < i → SomeStep (steps n s i)
unfolding steps IsStep
some-step n s zero l = absurd (omega arith)
some-step n s (suc zero) l = inl tt
some-step n s (suc (suc zero)) l = inl tt
some-step n s (suc (suc (suc i))) l = inl tt

plan-has-step : (n : ℕ) (s : Settings) → 0 < s.epf.iters → SomeStep (plan n s)
unfolding plan
plan-has-step n s l = go (gabor_on s)
  where
    go : (on : Bool) → SomeStep (cond on (gabor_like (take n s.gabor.weights) ∷ steps n s s.epf.iters) (steps n s s.epf.iters))
    go true = inr (some-step n s s.epf.iters l)
    go false = some-step n s s.epf.iters l

both-on : (small large : Handed) → passes_of small.setup ≡ passes_of large.setup → T (epf_on small.setup) → T (epf_on large.setup)
both-on small large e on =
    lt→ltb 0 large.setup.settings.epf.iters
    (plan-some-step large.setup.planes large.setup.settings (rw e at (plan-has-step small.setup.planes small.setup.settings (ltb→lt 0 small.setup.settings.epf.iters on))))

-- ---- equal block sigmas

pub sources-give-sigmas : SourcesGiveSigmas
sources-give-sigmas small large u from = record {
  unrefused = from.unrefused;
  contained = from.contained;
  same-passes = from.same-passes;
  inputs-agree = from.inputs-agree;
  sigmas-alike = λ on x y inner.
      placed small u on x y inner
      ∙ same-block small large (from.sigmas-alike on) (nat_abs x / 8) (nat_abs y / 8) (in_frame small u on x y inner)
      ∙ sym (placed large from.unrefused (both-on small large from.same-passes on) x y (holds-in-larger large.setup.filter small.setup.filter from.contained x y inner));
}
