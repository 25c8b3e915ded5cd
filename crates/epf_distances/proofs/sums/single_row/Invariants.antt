-- `epf_distances::sums::single_row` meets its contract. The invariant: v vectors are written. Assumes nothing.
use mathlib.Core.Path.{◌≡◌}
use Prim.Native.Nat.{ℕ, ◌+◌, ◌*◌}
use Rattle.planes.specs.Fill.{fill}
use Rattle.epf_step.specs.Steps.{scaled}
use Rattle.epf_distances.specs.Seen.{apart_by, summed}
use Rattle.epf_distances.proofs.sums.single_row.Given as goal

abbrev pub invariant-loop-v : goal.invariant-loop-v
invariant-loop-v g l = l.fields ≡ fill l.initial.fields l.at (4 * l.v) (λ (i : ℕ). summed 1 2 (scaled g.row.N l.scales) (λ (c : ℕ). apart_by l.src (c * l.plane) l.apart) (l.p + i))
