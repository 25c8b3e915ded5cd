-- Numbers of refusals: none is 0, and two refusals with one number are the same. Assumes nothing.
use mathlib.Core.Path.{◌≡◌}
use Prim.Native.Nat.{◌<◌}
use native.Mathlib.Omega.{arith}
use Rattle.refusals.specs.declared.Refusal.{Refusal}
use Rattle.refusals.specs.declared.Refusal.TheVariants.{BitsRunOut, HalfNotFinite, KernelNearZero, OutOfLimits, NotInside, NotOnBlocks, WrongLength, BlockNotHeld, OutOfRange, BandNotOpen, PassNotDone, NotACutFile, BadEntry, WrongEnd, WantedOutside}
use Rattle.refusals.specs.Refusals.{refusal_number as number}

pub number-positive : (e : Refusal) → 0 < number e
number-positive BitsRunOut = omega arith
number-positive HalfNotFinite = omega arith
number-positive KernelNearZero = omega arith
number-positive OutOfLimits = omega arith
number-positive NotInside = omega arith
number-positive NotOnBlocks = omega arith
number-positive WrongLength = omega arith
number-positive BlockNotHeld = omega arith
number-positive OutOfRange = omega arith
number-positive BandNotOpen = omega arith
number-positive PassNotDone = omega arith
number-positive NotACutFile = omega arith
number-positive BadEntry = omega arith
number-positive WrongEnd = omega arith
number-positive WantedOutside = omega arith

-- a refusal's number is not 0
pub number-nonzero : (e : Refusal) → number e ≡ 0 → ⊥
number-nonzero e z = omega (arith, number-positive e, z)
