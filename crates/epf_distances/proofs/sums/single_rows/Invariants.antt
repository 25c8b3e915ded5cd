-- `epf_distances::sums::single_rows` meets its contract. The invariant: r rows are written. Assumes nothing.
use mathlib.Core.Path.{◌≡◌}
use Prim.Native.Nat.{ℕ, ◌+◌, ◌*◌, ◌≤◌}
use Rattle.planes.specs.Rect.{rows_fill}
use Rattle.epf_step.specs.Steps.{scaled}
use Rattle.epf_distances.specs.Seen.{apart_by, summed}
use Rattle.epf_distances.proofs.sums.single_rows.Given as goal

abbrev pub invariant-loop-r : goal.invariant-loop-r
invariant-loop-r g l = (l.r ≤ l.rows) × (l.fields ≡ rows_fill l.initial.fields l.at 72 (4 * l.vectors) l.r (λ (r : ℕ) (i : ℕ). summed 1 2 (scaled g.row.N l.scales) (λ (c : ℕ). apart_by l.src (c * l.v.plane) l.apart) (l.p + r * l.v.stride + i)))
