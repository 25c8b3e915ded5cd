-- `epf_distances::sums::sum_rows` meets its contract. The invariant: r rows are written. Assumes nothing.
use mathlib.Core.Path.{◌≡◌}
use Prim.Native.Nat.{ℕ, ◌+◌, ◌*◌, ◌≤◌}
use lib.ListN.{get_or}
use lib.Ieee.{nan}
use Rattle.planes.specs.Rect.{rows_fill}
use Rattle.epf_step.specs.Steps.{scaled}
use Rattle.epf_distances.specs.Seen.{summed}
use Rattle.epf_distances.proofs.sums.sum_rows.Given as goal

abbrev pub invariant-loop-r : goal.invariant-loop-r
invariant-loop-r g l = (l.r ≤ l.rows) × (l.fields ≡ rows_fill l.initial.fields l.at 72 (4 * l.vectors) l.r (λ (r : ℕ) (i : ℕ). summed 72 g.row.STEP (scaled g.row.N l.scales) (λ (c : ℕ) (p : ℕ). get_or l.d (c * 864 + p) nan) (72 + 1 + r * 72 + i)))
