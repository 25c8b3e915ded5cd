use mathlib.Core.Path.{◌≡◌, refl, sym, ◌∙◌}
use mathlib.Core.Bool.{true}
use native.Mathlib.Omega.{arith}
use Rattle.sigma_grids.specs.Table.{grid_start, bad_grid, some_below}
use Rattle.sigma_grids.proofs.Laws.{some-found, some_turn, entries-fit, start-number, start-le, start-more, cells-le}
use Rattle.sigma_grids.proofs.grid_start.Goals as goal

pub loop-g-init : goal.loop-g-init
unfolding grid_start some_below
loop-g-init c = (refl, refl)

-- a grid before the group has a side out of range
pub returns-then-bad_grid : goal.returns-then-bad_grid
returns-then-bad_grid c =
    let t = c.args.table.now in
    let g = c.args.group in
    let fits = entries-fit t g (sym c.no_entries.ensures ∙ c.if-no_entries.false) in
    let found : some_below g (bad_grid t) ≡ true = some-found g c.loop-g.g (bad_grid t) c.loop-g-test.true (sym c.bad_grid.ensures ∙ c.if-bad_grid.true) in
    (sym (start-number t g fits.0 fits.1 ∙ rw found), tt)

pub overflow_add-start : goal.overflow_add-start
overflow_add-start c =
    let t = c.args.table.now in
    let g = c.loop-g.g in
    let fits = entries-fit t c.args.group (sym c.no_entries.ensures ∙ c.if-no_entries.false) in
    omega (arith, c.loop-g.invariant.0, start-le t g g c.loop-g.invariant.1 (omega arith), cells-le t g (sym c.bad_grid.ensures ∙ c.if-bad_grid.false), c.cells-start.ensures, c.loop-g-test.true, fits.0, fits.1)

pub loop-g-preserved : goal.loop-g-preserved
loop-g-preserved c =
    (rw (c.loop-g.invariant.0, c.cells-start.ensures) (start-more _ _), some_turn _ _ c.loop-g.invariant.1 (sym c.bad_grid.ensures ∙ c.if-bad_grid.false))
