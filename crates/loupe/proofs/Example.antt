-- The call of specs/Example.antt is accepted, and its arguments show a part of the whole picture. Assumes nothing.
use mathlib.Core.Path.{◌≡◌, refl, sym, ◌∙◌}
use Prim.Native.Nat.{ℕ, ◌+◌, ◌<◌}
use native.Mathlib.Omega.{arith}
use lib.IntN.{ℤ, pos, nat_abs, ◌-ℤ◌}
use Rattle.region_interval.proofs.Positions.{offset-below, offsets-add}
use Rattle.region.specs.Measures.{bounds_fit, picture_fits, rectangle_fits}
use Rattle.region.specs.Regions.{inside, region_of, Holds}
use Rattle.region_axis.specs.Measures.{corner_fits, side_fits}
use Rattle.frame.specs.Sizes.{sizes_of}
use Rattle.frame.specs.Outcome.{bad_sides, bad_settings}
use Rattle.sigma_grids.specs.Table.{bad_grid, cells, grid_start, grid_lacks_block, some_below}
use Rattle.sigma_groups.specs.Held.{not_held, some_not_held}
use Rattle.sigma_groups.specs.Outcome.{table_fits, grids_fit}
use Rattle.planes_layout.specs.Outcome.{layout_of}
use Rattle.planes.specs.Sets.{set_of, tab}
use Rattle.planes.specs.Band.{inner}
use Rattle.planes.proofs.SetLaws.{of-set_of}
use Rattle.run_passes.specs.Plan.{step_margin}
use Rattle.run_outcomes.specs.Start.{start_leaves}
use Rattle.run_calls.specs.FourEdges.{Given, larger}
use Rattle.run_calls.specs.Places.{input_at}
use Rattle.run_calls.proofs.Promises.{promises}
use Rattle.loupe_region.specs.Widened.{widened}
use Rattle.loupe_region.specs.Outcome.{widened_region}
use Rattle.loupe.specs.Outcome.{as_run, loupe_checks, loupe_outcome}
use Rattle.loupe.specs.Whole.{PartOf}
use Rattle.loupe.specs.Example.{handed, LoupePremisesMet}

module _ (g : Given) where
  accepted : (loupe_outcome (handed g)).number ≡ 0
  unfolding loupe_outcome loupe_checks widened region_of step_margin picture_fits rectangle_fits bounds_fit corner_fits side_fits inside bad_sides bad_settings sizes_of table_fits grids_fit grid_start cells some_below bad_grid some_not_held not_held grid_lacks_block layout_of set_of tab
  accepted = refl

  module _ (x y : ℤ) (held : Holds (widened_region (handed g).setup) x y) where
    column : nat_abs (x -ℤ pos 8) < 8
    unfolding widened region_of step_margin
    column = offset-below (pos 8) 8 x held.column

    further : nat_abs (x -ℤ pos 0) ≡ 8 + nat_abs (x -ℤ pos 8)
    unfolding widened region_of step_margin
    further = offsets-add (pos 8) (pos 0) x tt held.column.from

    row : nat_abs (y -ℤ pos 8) < 8
    unfolding widened region_of step_margin
    row = offset-below (pos 8) 8 y held.row

    lower : nat_abs (y -ℤ pos 0) ≡ 8 + nat_abs (y -ℤ pos 8)
    unfolding widened region_of step_margin
    lower = offsets-add (pos 8) (pos 0) y tt held.row.from

    inputs : (c : ℕ) → c < 3 → input_at (as_run (handed g)) c x y ≡ input_at (larger g) c x y
    unfolding widened region_of step_margin start_leaves inner layout_of
    inputs c h =
        let e : 9 + (0 + nat_abs (x -ℤ pos 8)) ≡ 1 + nat_abs (x -ℤ pos 0) = omega (arith, further) in
        let f : 9 + (0 + nat_abs (y -ℤ pos 8)) ≡ 1 + nat_abs (y -ℤ pos 0) = omega (arith, lower) in
        of-set_of 3 8 8 _ c (0 + nat_abs (x -ℤ pos 8)) (0 + nat_abs (y -ℤ pos 8)) h (omega (arith, column)) (omega (arith, row))
        ∙ rw (e, f) (sym (of-set_of 3 26 26 g.picture c (1 + nat_abs (x -ℤ pos 0)) (1 + nat_abs (y -ℤ pos 0)) h (omega (arith, column, further)) (omega (arith, row, lower))))

  part : PartOf (handed g) (larger g)
  part = record {
    unrefused = (promises.four-edges-met g).cut-from-larger.unrefused;
    same-region = refl;
    same-passes = refl;
    inputs-agree = λ c x y h held. inputs x y held c h;
    same-sources = λ on. record { same-frame = refl; same-presence = λ k l. refl; same-sides = λ k l t. (refl, refl); same-grids = refl; same-modular = refl };
  }

pub loupe-premises-met : LoupePremisesMet
unfolding widened region_of step_margin
loupe-premises-met g = (accepted g, part g, refl)
