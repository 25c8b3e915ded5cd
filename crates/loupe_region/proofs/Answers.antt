-- The number of a call of `widened_rectangle` and of `loupe_widened`, by the first check that applies. Assumes nothing.
use mathlib.Core.Path.{◌≡◌}
use mathlib.Core.Bool.{true, false, cond, not}
use mathlib.Core.List.{[], ◌∷◌}
use Rattle.refusals.specs.Numbers.{out_of_range}
use Rattle.refusals.proofs.Rows.{joined-refused, joined-passed}
use Rattle.planes.specs.Band.{planes_fit}
use Rattle.refusals.specs.Checks.{first_of}
use Rattle.region.specs.Measures.{picture_fits, rectangle_fits}
use Rattle.run_passes.specs.Plan.{margin_number, margin_checks}
use Rattle.loupe_region.specs.declared.LoupeSetup.{LoupeSetup}
use Rattle.loupe_region.specs.Outcome.{bad_wanted, off_blocks, planes_one_or_three, rectangle_checks, widened_checks}

module _ (s : LoupeSetup) where
  pub whole-outside : picture_fits s.whole ≡ false → first_of (rectangle_checks s) ≡ 4
  unfolding rectangle_checks
  whole-outside e = rw e

  module _ (e : picture_fits s.whole ≡ true) where
    pub wanted-outside : rectangle_fits s.wanted ≡ false → first_of (rectangle_checks s) ≡ 4
    unfolding rectangle_checks
    wanted-outside f = rw (e, f)

    module _ (f : rectangle_fits s.wanted ≡ true) where
      pub wanted-bad : bad_wanted s.whole s.wanted ≡ true → first_of (rectangle_checks s) ≡ 15
      unfolding rectangle_checks
      wanted-bad g = rw (e, f, g)

      module _ (g : bad_wanted s.whole s.wanted ≡ false) where
        pub whole-off-blocks : off_blocks s ≡ true → first_of (rectangle_checks s) ≡ 6
        unfolding rectangle_checks
        whole-off-blocks b = rw (e, f, g, b)

        pub regions-pass : off_blocks s ≡ false → first_of (rectangle_checks s) ≡ margin_number s.settings
        unfolding rectangle_checks
        regions-pass b = rw (e, f, g, b)

  -- then the number of planes is looked at
  pub rectangle-refused : (first_of (rectangle_checks s) ≡ 0 → ⊥) → first_of (widened_checks s) ≡ first_of (rectangle_checks s)
  unfolding widened_checks rectangle_checks margin_checks
  rectangle-refused h = joined-refused (rectangle_checks s) (planes_one_or_three s ∷ []) tt h

  pub rectangle-passed : first_of (rectangle_checks s) ≡ 0 → first_of (widened_checks s) ≡ cond (not (planes_fit s.planes)) out_of_range 0
  unfolding widened_checks rectangle_checks margin_checks
  rectangle-passed z = joined-passed (rectangle_checks s) (planes_one_or_three s ∷ []) tt z
