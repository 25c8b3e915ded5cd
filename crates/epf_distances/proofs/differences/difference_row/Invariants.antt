-- `epf_distances::differences::difference_row` meets its contract. The invariant: v vectors are written. Assumes nothing.
use mathlib.Core.Path.{◌≡◌}
use Prim.Native.Nat.{ℕ, ◌+◌, ◌*◌}
use Rattle.planes.specs.Fill.{fill}
use Rattle.epf_distances.specs.Seen.{apart_by}
use Rattle.epf_distances.proofs.differences.difference_row.Given as goal

abbrev pub invariant-loop-v : goal.invariant-loop-v
invariant-loop-v l = l.d ≡ fill l.initial.d l.at (4 * l.v) (λ (i : ℕ). apart_by l.src 0 l.apart (l.p + i))
