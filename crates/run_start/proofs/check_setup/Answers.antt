-- `run_start::check_setup` meets its contract. Assumes nothing.
use mathlib.Core.Path.{◌≡◌, sym, ap, ◌∙◌}
use mathlib.Core.Bool.{Bool, true, false, cond, not, ◌&&◌}
use mathlib.Core.List.{[], ◌∷◌}
use Prim.Native.Nat.{ℕ}
use lib.ListN.{length}
use Rattle.refusals.specs.Checks.{first_of}
use Rattle.refusals.specs.Numbers.{out_of_range}
use Rattle.region_placement.specs.Blocks.{on_blocks}
use Rattle.planes.specs.Band.{planes_fit}
use Rattle.run_setup.specs.declared.Setup.{Setup}
use Rattle.run_setup.specs.Setup.{numbers_fit}
use Rattle.run_passes.specs.Plan.{gabor_fits}
use Rattle.run_setup.specs.Setup.{iters_fit, full_fits, height_fits, count_fits}
use Rattle.run_outcomes.specs.Band.{set_check}
use Rattle.run_outcomes.specs.Start.{runs_epf, filter_on_blocks}
use Rattle.run_outcomes.proofs.Steps.{first-refuses, first-passes}
use Rattle.run_start.specs.Pieces.{settings_checks, setup_checks}
use Rattle.run_start.proofs.Tests.{settings-row}
use Rattle.run_start.proofs.check_setup.Goals as goal

-- the rows of the setup's settings
settings-number : (s : Setup) (r b : Bool) → r ≡ numbers_fit s → not r ≡ b → cond b out_of_range 0 ≡ first_of (settings_checks s)
unfolding numbers_fit
settings-number s r b is e =
    ap (λ (b : Bool). cond b out_of_range 0) (sym e ∙ ap not is) ∙ settings-row (iters_fit s) (planes_fit s.planes) (full_fits s) (gabor_fits s.settings) (height_fits s) (count_fits s)

module _ (s : Setup) (first second : ℕ) (e : (runs_epf s && not (on_blocks s.filter)) ≡ false) where
  -- past the corner
  on-corner : first_of (set_check s first second ∷ settings_checks s) ≡ first_of (setup_checks s first second)
  on-corner = let z : 0 ≡ first_of (filter_on_blocks s ∷ []) = rw e in first-passes (filter_on_blocks s) (set_check s first second ∷ settings_checks s) tt z

  -- and past the sets
  past-sets : 0 ≡ first_of (set_check s first second ∷ []) → first_of (settings_checks s) ≡ first_of (setup_checks s first second)
  past-sets z = first-passes (set_check s first second) (settings_checks s) tt z ∙ on-corner

pub returns-in_err-check_sets : goal.returns-in_err-check_sets
returns-in_err-check_sets c =
    let s = c.args.s.now in
    first-refuses (set_check s (length c.args.first.now) (length c.args.second.now)) (settings_checks s) tt _ c.in_err-check_sets.ensures _ c.from_residual.ensures.1
    ∙ on-corner s (length c.args.first.now) (length c.args.second.now) (sym c.off_blocks.ensures ∙ c.if-off_blocks.false)

pub returns-then-not-numbers_fit : goal.returns-then-not-numbers_fit
returns-then-not-numbers_fit c =
    let s = c.args.s.now in
    settings-number s c.numbers_fit.result true c.numbers_fit.ensures (ap not c.if-not-numbers_fit.true)
    ∙ past-sets s (length c.args.first.now) (length c.args.second.now) (sym c.off_blocks.ensures ∙ c.if-off_blocks.false) c.in_ok-check_sets.ensures

pub returns : goal.returns
returns c =
    let s = c.args.s.now in
    settings-number s c.numbers_fit.result false c.numbers_fit.ensures (ap not c.if-not-numbers_fit.false)
    ∙ past-sets s (length c.args.first.now) (length c.args.second.now) (sym c.off_blocks.ensures ∙ c.if-off_blocks.false) c.in_ok-check_sets.ensures
