-- Sample arithmetic for definitions: binary32 of IEEE 754, each operation rounded once, to nearest with ties to even (Specification 2.4).
use Rattle.std.specs.Prelude.{ℕ, Float}
use Rattle.std.specs.Float.{binary32}
use Rattle.std.specs.Float.Ieee.{add, sub, mul, div, of_bits}

infixl 60 ◌⊕◌ ◌⊖◌
infixl 70 ◌⊗◌ ◌⊘◌
abbrev pub ◌⊕◌ : Float → Float → Float
x ⊕ y = add binary32 x y

abbrev pub ◌⊖◌ : Float → Float → Float
x ⊖ y = sub binary32 x y

abbrev pub ◌⊗◌ : Float → Float → Float
x ⊗ y = mul binary32 x y

abbrev pub ◌⊘◌ : Float → Float → Float
x ⊘ y = div binary32 x y

-- a constant, given by its bits
abbrev pub bits : ℕ → Float
bits b = of_bits binary32 b

-- 0.0
abbrev pub b0 : Float
b0 = bits 0x0000_0000

-- 1.0
abbrev pub b1 : Float
b1 = bits 0x3f80_0000

-- 2.0
abbrev pub b2 : Float
b2 = bits 0x4000_0000

-- 3.0
abbrev pub b3 : Float
b3 = bits 0x4040_0000

-- 4.0
abbrev pub b4 : Float
b4 = bits 0x4080_0000
