-- `epf_slopes::row_slopes` meets its contract. The invariant: b blocks are written. Assumes nothing.
use mathlib.Core.Path.{◌≡◌}
use Prim.Native.Nat.{◌*◌, ◌≤◌}
use Rattle.planes.specs.Fill.{fill}
use Rattle.epf_slopes.specs.Slopes.{slope_at}
use Rattle.epf_slopes.proofs.row_slopes.Given as goal

abbrev pub invariant-loop-b : goal.invariant-loop-b
invariant-loop-b l = (l.b ≤ l.blocks) × (l.slopes ≡ fill l.initial.slopes l.at (l.b * 8) (slope_at l.sigmas l.first l.scale l.edge l.row))
