-- `epf_distances::sums::distance` meets its contract. The invariant: c channels are added, at least one. Assumes nothing.
use mathlib.Core.Path.{◌≡◌}
use Prim.Native.Nat.{ℕ, ◌+◌, ◌*◌, ◌≤◌}
use lib.ListN.{get_or}
use lib.Ieee.{nan}
use Rattle.epf_step.specs.Steps.{scaled}
use Rattle.epf_vectors.specs.Lanes.{lanes_of}
use Rattle.epf_distances.specs.Seen.{summed}
use Rattle.epf_distances.proofs.sums.distance.Given as goal

abbrev pub invariant-loop-c : goal.invariant-loop-c
invariant-loop-c g l = (1 ≤ l.c) × (l.c ≤ g.row.N) × (l.sum ≡ lanes_of (λ (k : ℕ). summed 72 g.row.STEP (scaled l.c l.scales) (λ (c : ℕ) (p : ℕ). get_or l.d (c * 864 + p) nan) (l.j + k)))
