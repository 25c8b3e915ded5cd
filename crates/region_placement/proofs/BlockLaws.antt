-- Laws of the tests that a filter region starts on block boundaries. Assumes nothing.
use Prim.Native.Nat.{◌≤◌}
use native.Mathlib.Omega.{arith}
use lib.IntN.{ℤ, pos, negsuc}
use lib.Signed.{mag}
use Rattle.region_placement.specs.Blocks.{clamp_to_zero}

pub clamp-small : (z : ℤ) → clamp_to_zero z ≤ mag z
clamp-small (pos k) = omega arith
clamp-small (negsuc k) = omega arith
