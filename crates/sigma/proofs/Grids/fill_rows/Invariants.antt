-- `sigma::Grids::fill_rows` meets its contract. The invariant: y rows are written. Assumes nothing.
use mathlib.Core.Path.{◌≡◌}
use Prim.Native.Nat.{◌*◌}
use Rattle.planes.specs.Fill.{fill}
use Rattle.sigma.proofs.Runs.{flat_sigma}
use Rattle.sigma.proofs.Grids.fill_rows.Given as goal

abbrev pub invariant-loop-y : goal.invariant-loop-y
invariant-loop-y l = l.sigmas ≡ fill l.initial.sigmas 0 (l.y * l.across) (flat_sigma l.self.groups.frame.frame l.region.blocks l.self.groups.table.now l.self.grids.now l.self.modular)
