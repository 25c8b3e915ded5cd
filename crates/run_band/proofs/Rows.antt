-- Rows of a pass of a run: neither filter refuses them, and the written set is that of the next pass. Assumes nothing.
use mathlib.Core.Path.{◌≡◌, sym, ap, ◌∙◌}
use mathlib.Core.Bool.{Bool, true, false, true≢false, ◌&&◌}
use mathlib.Core.List.{List, []}
use Prim.Native.Nat.{ℕ, ◌+◌, ◌*◌, ◌<◌, ◌≤◌, min}
use native.Mathlib.Decide.{ℕ_discrete}
use native.Mathlib.Omega.{arith}
use borrow.Author.Tests.{eq-eqb, le-leb, lt-ltb, le-ltb}
use lib.Dec.{eqb}
use lib.ListN.{length}
use lib.Ieee.{Float}
use Rattle.refusals.specs.Checks.{first_of}
use Rattle.region.specs.Regions.{inside}
use Rattle.region.specs.Measures.{picture_fits}
use Rattle.planes.specs.Band.{planes_fit, rows_fit}
use Rattle.planes.proofs.Stored.{and_first, and_second}
use Rattle.planes_layout.specs.Outcome.{layout_of, pass_checks, PassOutcome, pass_outcome}
use Rattle.gabor.specs.Outcome.{gabor_outcome}
use Rattle.epf_tiles.specs.Blocks.{block_columns, block_rows}
use Rattle.region_placement.specs.Blocks.{on_block, on_blocks}
use Rattle.epf.specs.declared.EpfStep.{EpfStep}
use Rattle.epf.specs.Outcome.{step_checks, epf_checks, epf_outcome}
use Rattle.run_passes.specs.declared.Settings.{Settings}
use Rattle.run_passes.specs.Pass.{gabor_like, pass}
use Rattle.run_passes.specs.Plan.{gabor_on, step_of, one_if, gabor_at, step_index}
use Rattle.run_passes.proofs.PlanLaws.{plan-length, plan-gabor, plan-step}
use Rattle.run_setup.specs.declared.Setup.{Setup}
use Rattle.run_record.specs.declared.Run.{Run}
use Rattle.run_setup.specs.Setup.{full_fits, layout, epf_on, row_count, set_length}
use Rattle.refusals.proofs.Tables.{is_true}
use Rattle.run_setup.specs.SetupFits.{SetupFits}
use Rattle.run_setup.proofs.Laws.{setup-fits}
use Rattle.run_band.specs.Rows.{passed_rows, RowsFit}

index-most : (s : Settings) (p : ℕ) → step_index s p ≤ 2
unfolding step_index
index-most s p = omega arith

-- an accepted pass writes what its definition says
accepted-target : (k : ℕ) (a left dst : List Float) (n : ℕ) → n ≡ 0 → ◌≡◌ {A = PassOutcome} (record { number = k; target = a }) (pass_outcome n left dst) → a ≡ left
unfolding pass_outcome
accepted-target k a left dst n z e = ap (λ (o : PassOutcome). o.target) e ∙ rw z

module _ (r : Run) (sigmas src dst : List Float) (from to : ℕ) (fits : RowsFit r (length sigmas) (length src) (length dst) from to) where
  abbrev s : Setup
  s = r.setup

  setup : SetupFits s
  setup = setup-fits s fits.run.setup

  rows_true : rows_fit (layout s) from to ≡ true
  rows_true = rw (le-leb from to fits.order, le-leb to (row_count s) fits.rows)

  gabor-number : first_of (pass_checks s.image s.filter s.planes s.preserve_outside from to src dst) ≡ 0
  unfolding pass_checks
  gabor-number = rw (
    is_true (picture_fits s.image) setup.image,
    is_true (picture_fits s.filter) setup.filter,
    is_true (inside s.image s.filter) setup.contained,
    is_true (planes_fit s.planes) setup.planes,
    eq-eqb (length src) (set_length s) fits.source,
    eq-eqb (length dst) (set_length s) fits.target,
    is_true (full_fits s) setup.full,
    rows_true,
  )

  -- a Gabor pass
  pub gabor-rows : gabor_at s.settings r.pass ≡ true → (ws : List (List Float)) → ws ≡ s.settings.gabor.weights → (k : ℕ) (a : List Float)
      → ◌≡◌ {A = PassOutcome} (record { number = k; target = a }) (gabor_outcome s.image s.filter s.planes s.preserve_outside ws from to src dst)
      → a ≡ passed_rows r sigmas from to src dst
  unfolding gabor_outcome pass layout_of
  gabor-rows g ws w k a e =
      accepted-target k a _ dst _ gabor-number e
      ∙ rw (plan-gabor s.planes s.settings r.pass (gabor_like []) g, w)

  -- a step of the EPF
  module _ (g : gabor_at s.settings r.pass ≡ false) where
    -- the EPF is on, since the next pass is not Gabor's
    some-iters : 0 < s.settings.epf.iters
    unfolding gabor_at
    some-iters = go (gabor_on s.settings) g (omega (arith, fits.left, plan-length s.planes s.settings))
      where
        go : (on : Bool) → (on && eqb r.pass 0) ≡ false → r.pass < one_if on + min s.settings.epf.iters 3 → 0 < s.settings.epf.iters
        go true e h = after (ℕ_discrete r.pass 0)
          where
            after : Dec (r.pass ≡ 0) → 0 < s.settings.epf.iters
            after (yes z) = absurd (true≢false (sym (eq-eqb r.pass 0 z) ∙ e))
            after (no z) = omega arith
        go false e h = omega arith

    on : epf_on s ≡ true
    on = lt-ltb 0 s.settings.epf.iters some-iters

    sigma-count : length sigmas ≡ block_rows (layout s) * block_columns (layout s)
    sigma-count = fits.sigma ∙ rw on

    corner : on_blocks s.filter ≡ true
    corner = is_true (on_blocks s.filter) (setup.blocks (rw on tt))

    step-number : first_of (epf_checks s.image s.filter s.planes s.preserve_outside (step_of s.settings (step_index s.settings r.pass)) sigmas from to src dst) ≡ 0
    unfolding epf_checks step_checks step_of layout_of
    step-number = rw (
      is_true (picture_fits s.image) setup.image,
      is_true (picture_fits s.filter) setup.filter,
      is_true (inside s.image s.filter) setup.contained,
      and_first (on_block s.filter.left) (on_block s.filter.top) corner,
      and_second (on_block s.filter.left) (on_block s.filter.top) corner,
      is_true (planes_fit s.planes) setup.planes,
      eq-eqb (length src) (set_length s) fits.source,
      eq-eqb (length dst) (set_length s) fits.target,
      eq-eqb (length sigmas) (block_rows (layout s) * block_columns (layout s)) sigma-count,
      le-ltb 2 (step_index s.settings r.pass) (index-most s.settings r.pass),
      is_true (full_fits s) setup.full,
      rows_true,
    )

    pub step-rows : (step : EpfStep) → step ≡ step_of s.settings (step_index s.settings r.pass) → (k : ℕ) (a : List Float)
        → ◌≡◌ {A = PassOutcome} (record { number = k; target = a }) (epf_outcome s.image s.filter s.planes s.preserve_outside step sigmas from to src dst)
        → a ≡ passed_rows r sigmas from to src dst
    unfolding epf_outcome pass layout_of
    step-rows step p k a e =
        accepted-target k a _ dst _ step-number (rw p at e)
        ∙ rw (plan-step s.planes s.settings r.pass (gabor_like []) g fits.left)
