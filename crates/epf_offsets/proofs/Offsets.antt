-- The bytes are the lists of a step's definition. Assumes nothing.
use mathlib.Core.Path.{refl}
use Prim.Native.Nat.{zero, suc}
use Rattle.epf_step.specs.Steps.{kernel, dists}
use Rattle.epf_offsets.specs.Offsets.{KernelPacked, DistancesPacked}

pub kernel-packed : KernelPacked
unfolding kernel
kernel-packed zero = refl
kernel-packed (suc s) = refl

pub distances-packed : DistancesPacked
unfolding dists
distances-packed zero = refl
distances-packed (suc zero) = refl
distances-packed (suc (suc s)) = refl
