-- The EPF bundle (Specification 5.6–5.8; ISO/IEC 18181-1, restoration filter, the fields `epf_iters` to `epf_sigma_for_modular`).
use Rattle.std.specs.Prelude.{ℕ, Bool, true, false, cond, ◌&&◌, List, [], ◌∷◌, Float}
use Rattle.std.specs.Float.Ieee.{of_bits}
use Rattle.std.specs.Float.{binary32}
use Rattle.header_bits.specs.Outcome.{Outcome}
use Rattle.header_bits.specs.Bits.{yes}
use Rattle.header_fields.specs.Fields.{Fields, bits, half, halves, bundle, read, none}
use Rattle.header_epf_sigma.specs.declared.EpfSigma.{EpfSigma}
use Rattle.header_epf_sigma.specs.Settings.{quant_mul_default, pass0_sigma_scale_default, pass2_sigma_scale_default, border_sad_mul_default, epf_sigma}
use Rattle.header_epf.specs.declared.Encoding.{Encoding}
use Rattle.header_epf.specs.declared.Encoding.TheVariants.{VarDct, Modular}
use Rattle.header_epf.specs.declared.EdgePreservingFilter.{EdgePreservingFilter}

abbrev pub var_dct : Encoding → Bool
var_dct VarDct = true
var_dct Modular = false

abbrev pub modular : Encoding → Bool
modular VarDct = false
modular Modular = true

-- ---- defaults, as bits
-- 0, 1/7, 2/7, 3/7, 4/7, 5/7, 6/7, 1
abbrev pub sharp_lut_default : List Float
sharp_lut_default =
    of_bits binary32 0
    ∷ of_bits binary32 0x3e12_4925
    ∷ of_bits binary32 0x3e92_4925
    ∷ of_bits binary32 0x3edb_6db7
    ∷ of_bits binary32 0x3f12_4925
    ∷ of_bits binary32 0x3f36_db6e
    ∷ of_bits binary32 0x3f5b_6db7
    ∷ of_bits binary32 0x3f80_0000
    ∷ []

-- 40, 5, 3.5
abbrev pub channel_scale_default : List Float
channel_scale_default = of_bits binary32 0x4220_0000 ∷ of_bits binary32 0x40a0_0000 ∷ of_bits binary32 0x4060_0000 ∷ []

abbrev pub sigma_for_modular_default : Float
sigma_for_modular_default = of_bits binary32 0x3f80_0000

-- ---- the tables
abbrev pub epf_off : EdgePreservingFilter
epf_off =
    record {
      enabled = false;
      iters = 0;
      sharp_lut = none ∷ none ∷ none ∷ none ∷ none ∷ none ∷ none ∷ none ∷ [];
      channel_scale = none ∷ none ∷ none ∷ [];
      sigma = epf_sigma none none none none;
      sigma_for_modular = none;
    }

abbrev pub epf_with : ℕ → List Float → List Float → EpfSigma → Float → EdgePreservingFilter
epf_with n l c s m = record { enabled = true; iters = n; sharp_lut = l; channel_scale = c; sigma = s; sigma_for_modular = m }

-- the fields of a filter that is on, with the given number of iterations
unfoldable pub parameter_fields : Encoding → ℕ → Fields EdgePreservingFilter
parameter_fields e iters =
    -- condition, width and default, field
    bits (var_dct e) 1 0 λ sharp-custom.
    halves (yes sharp-custom) sharp_lut_default λ sharp-lut.
    bits true 1 0 λ weight-custom.
    halves (yes weight-custom) channel_scale_default λ channel-scale.
    bits (yes weight-custom) 32 0 λ ignored.
    bits true 1 0 λ sigma-custom.
    half (yes sigma-custom && var_dct e) quant_mul_default λ quant-mul.
    half (yes sigma-custom) pass0_sigma_scale_default λ pass0-sigma-scale.
    half (yes sigma-custom) pass2_sigma_scale_default λ pass2-sigma-scale.
    half (yes sigma-custom) border_sad_mul_default λ border-sad-mul.
    half (modular e) sigma_for_modular_default λ sigma-for-modular.
    bundle (epf_with iters sharp-lut channel-scale (epf_sigma quant-mul pass0-sigma-scale pass2-sigma-scale border-sad-mul) sigma-for-modular)

unfoldable pub epf_fields : Encoding → Fields EdgePreservingFilter
epf_fields e =
    bits true 2 0 λ iters.
    cond (yes iters) (parameter_fields e iters) (bundle epf_off)

abbrev pub epf_at : Encoding → List ℕ → ℕ → Outcome EdgePreservingFilter
epf_at e = read (epf_fields e)
