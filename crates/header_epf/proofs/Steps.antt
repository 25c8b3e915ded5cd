-- The table of the EPF bundle, part by part, as the code reads it. Assumes nothing.
use Prim.Native.Nat.{ℕ}
use mathlib.Core.Bool.{Bool, true, false, not, cond}
use mathlib.Core.List.{List}
use mathlib.Core.Path.{◌≡◌, refl, sym, ap, ◌∙◌}
use lib.Dec.{eqb}
use lib.Ieee.{Float}
use Rattle.header_bits.specs.Outcome.{accepted, and_then}
use Rattle.header_bits.specs.Bits.{u}
use Rattle.header_half.specs.Half.{f16}
use Rattle.header_fields.specs.Fields.{Fields, half, bundle, nested, read, if_there}
use Rattle.header_fields.proofs.Rows.{same, read_nested}
use Rattle.header_epf_tables.specs.Tables.{sharp_fields, custom_scale_fields, scale_fields}
use Rattle.header_epf_sigma.specs.declared.EpfSigma.{EpfSigma}
use Rattle.header_epf_sigma.specs.Settings.{custom_sigma_fields, sigma_fields}
use Rattle.header_epf.specs.EdgeFilter.{var_dct, modular, sharp_lut_default, channel_scale_default, sigma_for_modular_default, epf_off, epf_with, parameter_fields, epf_fields}
use Rattle.header_epf.specs.declared.Encoding.{Encoding}
use Rattle.header_epf.specs.declared.EdgePreservingFilter.{EdgePreservingFilter}

module _ (e : Encoding) (n : ℕ) where
  last : List Float → List Float → EpfSigma → Fields EdgePreservingFilter
  last l c g = half (modular e) sigma_for_modular_default (λ m. bundle (epf_with n l c g m))

  -- the standard's table is its parts in sequence
  parts : nested (sharp_fields (var_dct e) sharp_lut_default) (λ l. nested (scale_fields channel_scale_default) (λ c. nested (sigma_fields (var_dct e)) (last l c))) ≡ parameter_fields e n
  unfolding nested sharp_fields custom_scale_fields scale_fields custom_sigma_fields sigma_fields parameter_fields last
  parts = refl

  module _ (s : List ℕ) (p : ℕ) where
    pub parameter_steps :
        read (parameter_fields e n) s p
        ≡ and_then (read (sharp_fields (var_dct e) sharp_lut_default) s p)
        (λ l q. and_then (read (scale_fields channel_scale_default) s q)
        (λ c r. and_then (read (sigma_fields (var_dct e)) s r)
        (λ g t. and_then (if_there (modular e) (f16 s t) sigma_for_modular_default t) (λ m v. accepted (epf_with n l c g m) v))))
    unfolding read last
    parameter_steps =
        sym (ap (λ (t : Fields EdgePreservingFilter). read t s p) parts)
        ∙ read_nested (sharp_fields (var_dct e) sharp_lut_default) _ s p
        ∙ same (read (sharp_fields (var_dct e) sharp_lut_default) s p)
        (λ l q. read_nested (scale_fields channel_scale_default) _ s q
        ∙ same (read (scale_fields channel_scale_default) s q) (λ c r. read_nested (sigma_fields (var_dct e)) (last l c) s r))

module _ (e : Encoding) (s : List ℕ) (p : ℕ) where
  pub epf_steps : read (epf_fields e) s p ≡ and_then (u 2 s p) (λ iters q. cond (eqb iters 0) (accepted epf_off q) (read (parameter_fields e iters) s q))
  unfolding read epf_fields
  epf_steps = same (u 2 s p) (λ iters q. by iters q (eqb iters 0))
    where
      by : (iters q : ℕ) (off : Bool) → read (cond (not off) (parameter_fields e iters) (bundle epf_off)) s q ≡ cond off (accepted epf_off q) (read (parameter_fields e iters) s q)
      by iters q true = refl
      by iters q false = refl
