-- The fields of the sigma settings, as the code reads them. Assumes nothing.
use Prim.Native.Nat.{ℕ}
use mathlib.Core.Bool.{Bool, true, false}
use mathlib.Core.List.{List}
use mathlib.Core.Path.{◌≡◌, refl}
use Rattle.header_bits.specs.Outcome.{accepted, and_then}
use Rattle.header_bits.specs.Bits.{flag}
use Rattle.header_bits.proofs.Readings.{flag_bit}
use Rattle.header_half.specs.Half.{f16}
use Rattle.header_fields.specs.Fields.{read, if_there}
use Rattle.header_epf_sigma.specs.Settings.{quant_mul_default, pass0_sigma_scale_default, pass2_sigma_scale_default, border_sad_mul_default, epf_sigma, custom_sigma_fields, sigma_fields}

-- `present`: `quant_mul` is
module _ (present : Bool) (s : List ℕ) (p : ℕ) where
  pub custom_steps :
      read (custom_sigma_fields present true) s p
      ≡ and_then (if_there present (f16 s p) quant_mul_default p) (λ quant q. and_then (f16 s q) (λ pass0 r. and_then (f16 s r) (λ pass2 t. and_then (f16 s t) (λ border v. accepted (epf_sigma quant pass0 pass2 border) v))))
  unfolding read custom_sigma_fields
  custom_steps = refl

  pub sigma_default : read (custom_sigma_fields present false) s p ≡ accepted (epf_sigma quant_mul_default pass0_sigma_scale_default pass2_sigma_scale_default border_sad_mul_default) p
  unfolding read custom_sigma_fields
  sigma_default = refl

  pub sigma_steps : read (sigma_fields present) s p ≡ and_then (flag s p) (λ custom q. read (custom_sigma_fields present custom) s q)
  unfolding read sigma_fields
  sigma_steps = flag_bit s p (λ custom q. read (custom_sigma_fields present custom) s q)
