-- The only place where settings (Specification 12.1) are made: zeros, and functions that change some fields. A new field gets its value
-- here. Definitions only.
use Rattle.std.specs.Prelude.{List, [], ◌∷◌, ℕ, Float}
use Rattle.planes.specs.Samples.{b0}
use Rattle.header_epf_sigma.specs.declared.EpfSigma.{EpfSigma}
use Rattle.run_passes.specs.declared.GaborSettings.{GaborSettings}
use Rattle.run_passes.specs.declared.EpfSettings.{EpfSettings}
use Rattle.run_passes.specs.declared.Settings.{Settings}

-- ---- the Gabor-like filter

abbrev pub gabor_of : ℕ → List (List Float) → GaborSettings
gabor_of enabled weights = record { enabled = enabled; weights = weights }

-- three channels with the same two weights
abbrev pub even_weights : Float → Float → List (List Float)
even_weights side corner = (side ∷ corner ∷ []) ∷ (side ∷ corner ∷ []) ∷ (side ∷ corner ∷ []) ∷ []

-- ---- the edge-preserving filter

abbrev pub epf_sigma_of : Float → Float → Float → Float → EpfSigma
epf_sigma_of quant pass0 pass2 border = record { quant_mul = quant; pass0_sigma_scale = pass0; pass2_sigma_scale = pass2; border_sad_mul = border }

abbrev pub epf_of : ℕ → List Float → EpfSigma → Float → EpfSettings
epf_of iters scales sigma modular = record { iters = iters; channel_scale = scales; sigma = sigma; sigma_for_modular = modular }

abbrev pub no_epf : EpfSettings
no_epf = epf_of 0 (b0 ∷ b0 ∷ b0 ∷ []) (epf_sigma_of b0 b0 b0 b0) b0

-- ---- both

abbrev pub no_settings : Settings
no_settings = record { gabor = gabor_of 0 (even_weights b0 b0); epf = no_epf }

abbrev pub with_gabor : GaborSettings → Settings → Settings
with_gabor g s = record { gabor = g; epf = s.epf }

abbrev pub with_epf : EpfSettings → Settings → Settings
with_epf e s = record { gabor = s.gabor; epf = e }

abbrev pub with_iters : ℕ → Settings → Settings
with_iters iters s = with_epf (epf_of iters s.epf.channel_scale s.epf.sigma s.epf.sigma_for_modular) s
