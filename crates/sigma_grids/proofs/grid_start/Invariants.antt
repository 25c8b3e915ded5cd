-- `sigma_grids::grid_start` meets its contract. The invariant: the sides of the grids before g are in range, and grid g starts at `start`. Assumes nothing.
use mathlib.Core.Path.{◌≡◌}
use mathlib.Core.Bool.{false}
use Rattle.sigma_grids.specs.Table.{grid_start, bad_grid, some_below}
use Rattle.sigma_grids.proofs.grid_start.Given as goal

abbrev pub invariant-loop-g : goal.invariant-loop-g
invariant-loop-g l = (l.start ≡ grid_start l.table l.g) × (some_below l.g (bad_grid l.table) ≡ false)
