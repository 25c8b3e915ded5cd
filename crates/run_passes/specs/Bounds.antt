-- Bounds of weights and divisors in the steps of the settings, at the standard copying limit (Specification 11.9). proofs/Bounds.antt
-- proves these statements.
use Rattle.std.specs.Prelude.{◌≡◌, false, List, [], ◌∷◌, ℕ, ◌+◌, ◌/◌, T, get_or, Float, pos}
use Rattle.std.specs.Float.{nan}
use Rattle.planes.specs.Samples.{b0, b1}
use Rattle.planes.specs.Picture.{Picture, around}
use Rattle.epf_step.specs.Steps.{Offset, Scaled, EpfPass, scaled, kernel, dists, copied, standard_limit, weight_at, divisor, multiplier}
use Rattle.epf_step.specs.Bounds.{not_negative, ScalesNotNegative, Between, most}
use Rattle.epf.specs.Outcome.{settings_of}
use Rattle.run_passes.specs.declared.Settings.{Settings}
use Rattle.run_passes.specs.Pass.{Area}
use Rattle.run_passes.specs.Plan.{scale_of, step_of}

-- M of the sample at column x and row y, in step k
abbrev pub multiplier_at : Settings → ℕ → Area → ℕ → ℕ → Float
multiplier_at s k a x y = multiplier (scale_of s.epf.sigma k) s.epf.sigma.border_sad_mul (a.top + y) x

-- step k on n planes: if the sample is not copied, its weights are from 0 to 1 and its divisor from 1 to 13 (step 0) or 1 to 5
abbrev pub SampleBounds : ℕ → Settings → ℕ → Area → Picture → ℕ → ℕ → Type 0
SampleBounds n s k a g x y =
    let e : EpfPass = settings_of n (step_of s k) in
    let sigma = a.sigma (x / 8) (y / 8) in
    let v = around a.width a.height g x y in
    copied sigma standard_limit ≡ false
    → ((o : Offset) → Between b0 b1 (weight_at e.scales (kernel k) (dists k) sigma (multiplier_at s k a x y) v o))
    × Between b1 (most k) (divisor e.scales (kernel k) (dists k) sigma (multiplier_at s k a x y) v)

-- the bounds hold if no scale is negative and M is not, whatever the picture and the sigmas
abbrev pub StepBounds : Type 0
StepBounds = (n : ℕ) (s : Settings) (k : ℕ) (a : Area) (g : Picture) (x y : ℕ)
    → ScalesNotNegative (scaled n s.epf.channel_scale) → T (not_negative (multiplier_at s k a x y)) → SampleBounds n s k a g x y

-- settings in which nothing that a step reads is negative
pub record NothingNegative (s : Settings) : Type 0 where
  pub channel : (c : ℕ) → T (not_negative (get_or s.epf.channel_scale c nan))
  pub pass0 : T (not_negative s.epf.sigma.pass0_sigma_scale)
  pub pass2 : T (not_negative s.epf.sigma.pass2_sigma_scale)
  pub border : T (not_negative s.epf.sigma.border_sad_mul)

-- with such settings the bounds hold in every step and at every sample
abbrev pub SettingsBounds : Type 0
SettingsBounds = (n : ℕ) (s : Settings) (k : ℕ) (a : Area) (g : Picture) (x y : ℕ) → NothingNegative s → SampleBounds n s k a g x y

-- one channel of scale 1
abbrev pub one_channel : List Scaled
one_channel = (0, b1) ∷ []

-- the upper bounds are reached: equal samples of one channel, sigma 1 and M 1
abbrev pub BoundsReached : Type 0
BoundsReached = (k : ℕ)
    → (weight_at one_channel (kernel k) (dists k) b1 b1 (λ c dx dy. b0) (pos 1, pos 0) ≡ b1)
    × (divisor one_channel (kernel k) (dists k) b1 b1 (λ c dx dy. b0) ≡ most k)
