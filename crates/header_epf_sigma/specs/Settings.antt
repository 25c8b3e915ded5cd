-- The sigma settings of the EPF bundle (Specification 5.6; ISO/IEC 18181-1, restoration filter, `epf_sigma_custom` to `epf_border_sad_mul`).
use Rattle.std.specs.Prelude.{Bool, true, ◌&&◌, Float}
use Rattle.std.specs.Float.Ieee.{of_bits}
use Rattle.std.specs.Float.{binary32}
use Rattle.header_bits.specs.Bits.{yes}
use Rattle.header_fields.specs.Fields.{Fields, bits, half, bundle}
use Rattle.header_epf_sigma.specs.declared.EpfSigma.{EpfSigma}

-- 0.46, 0.9, 6.5, 2/3
abbrev pub quant_mul_default : Float
quant_mul_default = of_bits binary32 0x3eeb_851f

abbrev pub pass0_sigma_scale_default : Float
pass0_sigma_scale_default = of_bits binary32 0x3f66_6666

abbrev pub pass2_sigma_scale_default : Float
pass2_sigma_scale_default = of_bits binary32 0x40d0_0000

abbrev pub border_sad_mul_default : Float
border_sad_mul_default = of_bits binary32 0x3f2a_aaab

abbrev pub epf_sigma : Float → Float → Float → Float → EpfSigma
epf_sigma q a b m = record { quant_mul = q; pass0_sigma_scale = a; pass2_sigma_scale = b; border_sad_mul = m }

unfoldable pub custom_sigma_fields : Bool → Bool → Fields EpfSigma
custom_sigma_fields var-dct custom =
    half (custom && var-dct) quant_mul_default λ quant-mul.
    half custom pass0_sigma_scale_default λ pass0-sigma-scale.
    half custom pass2_sigma_scale_default λ pass2-sigma-scale.
    half custom border_sad_mul_default λ border-sad-mul.
    bundle (epf_sigma quant-mul pass0-sigma-scale pass2-sigma-scale border-sad-mul)

unfoldable pub sigma_fields : Bool → Fields EpfSigma
sigma_fields var-dct =
    bits true 1 0 λ custom.
    custom_sigma_fields var-dct (yes custom)
