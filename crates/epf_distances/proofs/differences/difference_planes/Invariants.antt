-- `epf_distances::differences::difference_planes` meets its contract. The invariant: c planes are written. Assumes nothing.
use mathlib.Core.Path.{◌≡◌}
use Prim.Native.Nat.{ℕ, ◌+◌, ◌*◌, ◌≤◌}
use Rattle.planes.specs.Rect.{planes_fill}
use Rattle.epf_distances.specs.Seen.{apart_by}
use Rattle.epf_distances.proofs.differences.difference_planes.Given as goal

abbrev pub invariant-loop-c : goal.invariant-loop-c
invariant-loop-c g l = (l.c ≤ g.row.N) × (l.d ≡ planes_fill 72 12 0 (4 * l.vectors) 0 l.rows (λ (c : ℕ) (i : ℕ) (r : ℕ). apart_by l.src (c * l.v.plane) l.apart (l.p + r * l.v.stride + i)) l.initial.d l.c)
