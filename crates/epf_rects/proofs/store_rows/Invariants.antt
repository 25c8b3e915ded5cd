-- `epf_rects::store_rows` meets its contract. The invariant: r rows are written. Assumes nothing.
use mathlib.Core.Path.{◌≡◌}
use Prim.Native.Nat.{ℕ, ◌+◌, ◌*◌, ◌≤◌}
use lib.ListN.{length, get_or}
use lib.Ieee.{nan}
use Rattle.planes.specs.Rect.{rows_fill}
use Rattle.epf_rects.proofs.store_rows.Given as goal

abbrev pub invariant-loop-r : goal.invariant-loop-r
invariant-loop-r l = (l.r ≤ l.rows) × (length l.dst ≡ length l.initial.dst) × (l.dst ≡ rows_fill l.initial.dst l.at l.stride l.n l.r (λ (r' : ℕ) (i : ℕ). get_or l.src (l.at + r' * l.stride + i) nan))
