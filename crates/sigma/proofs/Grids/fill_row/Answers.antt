use mathlib.Core.Path.{◌≡◌, refl, ◌∙◌}
use mathlib.Core.Bool.{false}
use Prim.Native.Nat.{ℕ, ◌+◌, ◌-◌, ◌<◌, ◌≤◌}
use native.Mathlib.Omega.{arith}
use mathlib.Core.List.{List}
use Rattle.planes.specs.Fill.{fill}
use Rattle.planes.proofs.Fill.{fill_end}
use Rattle.sigma_groups.specs.Held.{not_held}
use Rattle.sigma_grids.proofs.Laws.{none_below}
use Rattle.sigma_groups.proofs.Laws.{held}
use Rattle.frame.specs.declared.Frame.{Frame}
use Rattle.sigma.specs.Runs.{RowFits}
use Rattle.sigma.specs.declared.BlockRow.{BlockRow}
use Rattle.sigma.proofs.Runs.{run_fits_lem, row-turn, fill-whole, length-part}
use Rattle.sigma.proofs.Grids.fill_row.Goals as goal

pub loop-x-init : goal.loop-x-init
unfolding fill
loop-x-init c = (omega arith, refl)

-- the blocks of a row are held
held_at : (f : Frame) (t : List ℕ) (row : BlockRow) → RowFits f t row → (i : ℕ) → i < row.across → not_held f t (row.left + i) row.by ≡ false
held_at f t row fits i l = none_below row.across i _ fits.held_all l

pub run_at-run-requires : goal.run_at-run-requires
run_at-run-requires c =
    let here = held _ _ _ _ (held_at _ _ _ c.requires.0 c.loop-x.x c.loop-x-test.true) in
    record { limit = omega (arith, c.loop-x-test.true); in_row = here.in_row; in_column = here.in-column }

pub fill_run-requires : goal.fill_run-requires
fill_run-requires c =
    let g = c.args.self.groups in
    let row = c.args.row in
    let run = c.run_at-run.ensures in
    let last : ℕ = c.run_at-run.result.n - 1 in
    let e : row.left + c.loop-x.x + last ≡ row.left + (c.loop-x.x + last) = omega arith in
    let last-held : not_held g.frame.frame g.table.now (row.left + c.loop-x.x + last) row.by ≡ false =
    rw e (held_at _ _ _ c.requires.0 (c.loop-x.x + last) (omega (arith, run.n-le, run.n_pos, c.loop-x-test.true))) in
    (run_fits_lem g.frame.frame g.sizes g.table.now c.args.self.grids.now c.args.self.described row.by (row.left + c.loop-x.x) _ _ run last-held, length-part _ _ _ (omega (arith, run.n-le, c.loop-x-test.true, c.requires.1, c.loop-x.auto.sigmas)))

pub loop-x-preserved : goal.loop-x-preserved
loop-x-preserved c =
    let s = c.args.self in
    let inv = c.loop-x.invariant in
    let ends : c.loop-x.x + c.run_at-run.result.n ≤ c.args.row.across = omega (arith, c.run_at-run.ensures.n-le, c.loop-x-test.true) in
    (ends, row-turn s.groups.frame.frame s.groups.table.now s.grids.now s.modular c.args.sigmas.now c.args.row _ _ c.loop-x.x _ _ inv.1 (omega (arith, ends, c.requires.1, c.loop-x.auto.sigmas)) c.run_at-run.ensures c.fill_run.ensures)

pub returns : goal.returns
returns c = let inv = c.loop-x.invariant in fill_end _ _ _ _ _ _ inv.1 inv.0 c.loop-x-test.false ∙ fill-whole _ _ _ c.requires.1

pub overflow_add-row : goal.overflow_add-row
overflow_add-row c = omega (arith, c.requires.0.left_le, c.requires.0.across-le, c.loop-x-test.true)

pub overflow_add-end : goal.overflow_add-end
overflow_add-end c = omega (arith, c.requires.0.across-le, c.run_at-run.ensures.n-le, c.loop-x-test.true)

pub loop-x-smaller : goal.loop-x-smaller
loop-x-smaller c = omega (arith, c.run_at-run.ensures.n_pos, c.run_at-run.ensures.n-le, c.loop-x-test.true)
