-- `planes::copy_samples` meets its contract. The invariant: the first i samples are copied. Assumes nothing.
use Prim.Native.Nat.{ℕ, ◌+◌}
use lib.ListN.{get_or}
use lib.Ieee.{nan}
use Rattle.planes.proofs.Loop.{Written}
use Rattle.planes.proofs.copy_samples.Given as goal

abbrev pub invariant-loop-i : goal.invariant-loop-i
invariant-loop-i l = Written l.initial.dst l.at l.n (λ (j : ℕ). get_or l.src (l.from + j) nan) l.dst l.i
