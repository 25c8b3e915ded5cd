-- `epf_distances::sums::single` meets its contract. The invariant: c channels are added, at least one. Assumes nothing.
use mathlib.Core.Path.{◌≡◌}
use Prim.Native.Nat.{ℕ, ◌+◌, ◌*◌, ◌≤◌}
use Rattle.epf_step.specs.Steps.{scaled}
use Rattle.epf_vectors.specs.Lanes.{lanes_of}
use Rattle.epf_distances.specs.Seen.{apart_by, summed}
use Rattle.epf_distances.proofs.sums.single.Given as goal

abbrev pub invariant-loop-c : goal.invariant-loop-c
invariant-loop-c g l = (1 ≤ l.c) × (l.c ≤ g.row.N) × (l.sum ≡ lanes_of (λ (k : ℕ). summed 1 2 (scaled l.c l.scales) (λ (c : ℕ). apart_by l.src (c * l.plane) l.apart) (l.p + k)))
