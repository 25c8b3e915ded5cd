-- The two weights of a channel in the Gabor bundle (Specification 5.4, 5.5; ISO/IEC 18181-1, restoration filter, `gab_x_weight1` and those after it).
use Rattle.std.specs.Prelude.{Bool, ◌&&◌, List, [], ◌∷◌, Float}
use Rattle.std.specs.Float.Ieee.{add, mul, lt, of_bits}
use Rattle.std.specs.Float.{binary32}
use Rattle.refusals.specs.Numbers.{kernel_near_zero}
use Rattle.rounding.specs.Magnitude.{magnitude}
use Rattle.header_fields.specs.Fields.{Fields, half, refuse, bundle}

-- 0.115169525 and 0.061248592
abbrev pub side_default : Float
side_default = of_bits binary32 0x3deb_de00

abbrev pub corner_default : Float
corner_default = of_bits binary32 0x3d7a_dfce

-- |1 + (w0 + w1) × 4| is below 2^-23, each operation rounded once
unfoldable pub near_zero : Float → Float → Bool
near_zero w0 w1 =
    lt
    (magnitude (add binary32 (of_bits binary32 0x3f80_0000) (mul binary32 (add binary32 w0 w1) (of_bits binary32 0x4080_0000))))
    (of_bits binary32 0x3400_0000)

-- the two weights of a channel
unfoldable pub channel_fields : Bool → Fields (List Float)
channel_fields custom =
    half custom side_default λ w0.
    half custom corner_default λ w1.
    refuse (custom && near_zero w0 w1) kernel_near_zero
    (bundle (w0 ∷ w1 ∷ []))
