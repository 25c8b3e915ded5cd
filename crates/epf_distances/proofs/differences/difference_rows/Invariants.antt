-- `epf_distances::differences::difference_rows` meets its contract. The invariant: r rows are written. Assumes nothing.
use mathlib.Core.Path.{◌≡◌}
use Prim.Native.Nat.{ℕ, ◌+◌, ◌*◌, ◌≤◌}
use Rattle.planes.specs.Rect.{rows_fill}
use Rattle.epf_distances.specs.Seen.{apart_by}
use Rattle.epf_distances.proofs.differences.difference_rows.Given as goal

abbrev pub invariant-loop-r : goal.invariant-loop-r
invariant-loop-r l = (l.r ≤ l.rows) × (l.d ≡ rows_fill l.initial.d l.at 72 (4 * l.vectors) l.r (λ (r : ℕ) (i : ℕ). apart_by l.src 0 l.apart (l.p + r * l.across + i)))
