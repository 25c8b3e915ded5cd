-- Equality of floats up to the sign of a zero. Definitions only.
use Rattle.std.specs.Prelude.{◌≡◌, ◌⊎◌, true, false, cond, pos, Float}
use Rattle.std.specs.Float.{fin, binary32}
use Rattle.std.specs.Float.Ieee.{lt, sub, of_bits}

-- x is a zero of either sign
abbrev pub Zero : Float → Type 0
Zero x = (x ≡ fin false 0 (pos 0)) ⊎ (x ≡ fin true 0 (pos 0))

-- x and y are equal, or both are zeros
abbrev pub EqualOrZeros : Float → Float → Type 0
EqualOrZeros x y = (x ≡ y) ⊎ (Zero x × Zero y)

-- |d|, but for a zero's sign: d where it is not below 0, less d where it is
abbrev pub parted : Float → Float
parted d =
    let zero = of_bits binary32 0 in
    sub binary32 (cond (lt d zero) zero d) (cond (lt d zero) d zero)
