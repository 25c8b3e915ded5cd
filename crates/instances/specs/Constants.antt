-- The constants of Specification 5.6, 5.7, 11.4 and 11.7, each tested by a result that another value would change. Each row is an equation
-- in the definitions that the contracts cite. Definitions only.
use Rattle.std.specs.Prelude.{◌≡◌, false, cond, List, [], ◌∷◌, ℕ, ◌+◌, ◌*◌, ◌^◌, eqb, Float}
use Rattle.std.specs.Float.{binary32}
use Rattle.std.specs.Float.Ieee.{round}
use Rattle.header_bits.specs.Outcome.{accepted}
use Rattle.header_gabor.specs.Gabor.{gabor_at}
use Rattle.header_epf_sigma.specs.declared.EpfSigma.{EpfSigma}
use Rattle.header_epf_sigma.specs.Settings.{epf_sigma}
use Rattle.header_epf.specs.declared.Encoding.TheVariants.{VarDct, Modular}
use Rattle.header_epf.specs.EdgeFilter.{epf_with, epf_at}
use Rattle.planes.specs.Samples.{bits, b0, b1}
use Rattle.planes.specs.Sets.{of, set_of, tab}
use Rattle.run_outcomes.specs.Band.{State, band_outcome}
use Rattle.instances.specs.Instances.{bytes_of, evenly, stepped, begun}

-- the binary32 nearest to num / den, as a Rust literal has it
abbrev pub near : ℕ → ℕ → Float
near num den = round binary32 false num den

-- ---- defaults of the headers (`filter.rs`)

-- 0, 1/7, .., 6/7, 1
abbrev pub sevenths : List Float
sevenths = near 0 7 ∷ near 1 7 ∷ near 2 7 ∷ near 3 7 ∷ near 4 7 ∷ near 5 7 ∷ near 6 7 ∷ near 7 7 ∷ []

-- 40, 5, 3.5
abbrev pub scales : List Float
scales = near 40 1 ∷ near 5 1 ∷ near 7 2 ∷ []

-- 0.46, 0.9, 6.5, 2/3
abbrev pub sigma_defaults : EpfSigma
sigma_defaults = epf_sigma (near 46 100) (near 9 10) (near 13 2) (near 2 3)

-- Modular, one iteration, custom sigma settings: 68 bits; the four halves are 1.0
abbrev pub modular_header : List ℕ
modular_header = bytes_of 9 (9 + 16 * (0x3c00 * (1 + 2 ^ 16 + 2 ^ 32 + 2 ^ 48)))

-- VarDCT, one iteration, custom channel scales: 85 bits; the three halves are 1.0, the 32 ignored bits are 1 and the last bit is 0
abbrev pub scales_header : List ℕ
scales_header = bytes_of 11 (9 + 16 * (0x3c00 * (1 + 2 ^ 16 + 2 ^ 32)) + 2 ^ 52 * 0xffff_ffff)

-- ---- the copying limit

-- step 1 over 2 × 24 samples, 2^-24 in column 0 and 0 in column 1; each block has this sigma
abbrev pub with_sigma : Float → State
with_sigma sigma = record {
  run = begun.run;
  sigmas = sigma ∷ sigma ∷ sigma ∷ [];
  first = set_of 3 2 24 (λ c x y. cond (eqb x 0) (bits 0x3380_0000) b0);
  second = begun.second;
}

-- column 1 of rows 20 to 23 after band 1
abbrev pub column1 : Float → List Float
column1 sigma = tab 4 (λ y. of 2 24 (band_outcome (with_sigma sigma) 1).state.second 0 1 (20 + y))

-- ---- the table

pub record Constants : Type 0 where
  -- Gabor on, no custom weights: 0.115169525 and 0.061248592
  pub gabor_defaults : gabor_at (1 ∷ []) 0 ≡ accepted (evenly (near 115169525 1000000000) (near 61248592 1000000000)) 2
  -- VarDCT, one iteration, nothing custom; sigma_for_modular is 1.0
  pub epf_defaults : epf_at VarDct (1 ∷ []) 0 ≡ accepted (epf_with 1 sevenths scales sigma_defaults b1) 5
  -- Modular: quant_mul is 0.46 though the other sigma settings are read
  pub quant_mul_modular : epf_at Modular modular_header 0 ≡ accepted (epf_with 1 sevenths scales (epf_sigma (near 46 100) b1 b1 b1) b1) 68
  -- VarDCT: 32 bits are ignored after custom channel scales
  pub scales_read : epf_at VarDct scales_header 0 ≡ accepted (epf_with 1 sevenths (b1 ∷ b1 ∷ b1 ∷ []) sigma_defaults b1) 85
  -- the limit is the binary32 nearest to 0.3: sigma 3E999999 copies, 3E99999A filters
  pub limit_is : near 3 10 ≡ bits 0x3e99_999a
  pub copied_under : column1 (bits 0x3e99_9999) ≡ b0 ∷ b0 ∷ b0 ∷ b0 ∷ []
  pub filtered_at : column1 (bits 0x3e99_999a) ≡ bits 0x324c_ccc3 ∷ bits 0x324c_ccc3 ∷ bits 0x324c_ccc3 ∷ bits 0x324c_ccb8 ∷ []
  -- 6.6 × (s − 1): for samples 0 and 1/2 the weight is 1 + 1/2 × that
  pub falloff_seen : stepped 2 b1 2 1 (b0 ∷ bits 0x3f00_0000 ∷ []) ≡ bits 0x3b87_e264 ∷ bits 0x3efd_e078 ∷ []
