-- `sigma::Grids::fill_row` meets its contract. The invariant: the runs before column x are written. Assumes nothing.
use mathlib.Core.Path.{◌≡◌}
use Prim.Native.Nat.{◌-◌, ◌≤◌}
use Rattle.planes.specs.Fill.{fill}
use Rattle.sigma.specs.Runs.{row_sigma}
use Rattle.sigma.proofs.Grids.fill_row.Given as goal

abbrev pub invariant-loop-x : goal.invariant-loop-x
invariant-loop-x l = (l.x ≤ l.row.across) × (l.sigmas ≡ fill l.initial.sigmas 0 l.x (row_sigma l.self.groups.frame.frame l.self.groups.table.now l.self.grids.now l.self.modular l.row))

abbrev pub decreases-loop-x : goal.decreases-loop-x
decreases-loop-x l = l.row.across - l.x
