-- `epf_slopes::block_slopes` meets its contract. The invariant: i columns of eight are written. Assumes nothing.
use mathlib.Core.Path.{◌≡◌}
use Prim.Native.Nat.{ℕ}
use Rattle.planes.specs.Fill.{fill}
use Rattle.planes.specs.Samples.{◌⊗◌}
use Rattle.epf_step.specs.Steps.{multiplier}
use Rattle.epf_slopes.proofs.block_slopes.Given as goal

abbrev pub invariant-loop-i : goal.invariant-loop-i
invariant-loop-i l = l.slopes ≡ fill l.initial.slopes l.at l.i (λ (j : ℕ). l.slope ⊗ multiplier l.scale l.edge l.row j)
