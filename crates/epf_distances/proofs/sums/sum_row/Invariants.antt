-- `epf_distances::sums::sum_row` meets its contract. The invariant: v vectors are written. Assumes nothing.
use mathlib.Core.Path.{◌≡◌}
use Prim.Native.Nat.{ℕ, ◌+◌, ◌*◌}
use lib.ListN.{get_or}
use lib.Ieee.{nan}
use Rattle.planes.specs.Fill.{fill}
use Rattle.epf_step.specs.Steps.{scaled}
use Rattle.epf_distances.specs.Seen.{summed}
use Rattle.epf_distances.proofs.sums.sum_row.Given as goal

abbrev pub invariant-loop-v : goal.invariant-loop-v
invariant-loop-v g l = l.fields ≡ fill l.initial.fields l.at (4 * l.v) (λ (i : ℕ). summed 72 g.row.STEP (scaled g.row.N l.scales) (λ (c : ℕ) (p : ℕ). get_or l.d (c * 864 + p) nan) (l.j + i))
