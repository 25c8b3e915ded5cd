-- The bounds of specs/Bounds.antt for the steps of the settings: those of crate `epf_step` at the copying limit and at `step_of`. Assumes
-- nothing.
use mathlib.Core.Path.{refl}
use mathlib.Core.List.{List}
use Prim.Native.Nat.{ℕ, zero, suc}
use lib.Dec.{T}
use lib.ListN.{get_or}
use lib.Ieee.{Float, nan, of_bits, lt, add, sub, mul, div}
use lib.Ieee.Positive.{above}
use Rattle.rounding.specs.Magnitude.{magnitude}
use Rattle.epf_step.specs.Steps.{kernel, dists, along, scaled_from, apart, distance, positive, weight_by, weight_at, divisor, standard_limit}
use Rattle.epf_step.specs.Bounds.{not_negative, ScalesNotNegative}
use Rattle.epf_step.proofs.Bounds.{weight-bounds, divisor-bounds, pass-bounds}
use Rattle.epf.specs.Outcome.{settings_of}
use Rattle.run_passes.specs.declared.Settings.{Settings}
use Rattle.run_passes.specs.Plan.{scale_of, step_of}
use Rattle.run_passes.specs.Bounds.{NothingNegative, StepBounds, SettingsBounds, BoundsReached}

limit-above : T (above standard_limit)
unfolding of_bits
limit-above = tt

scales-not-negative : (ss : List Float) → ((c : ℕ) → T (not_negative (get_or ss c nan))) → (c n : ℕ) → ScalesNotNegative (scaled_from c n ss)
unfolding scaled_from
scales-not-negative ss h c zero = tt
scales-not-negative ss h c (suc n) = (h c, scales-not-negative ss h (suc c) n)

scale-not-negative : (s : Settings) → NothingNegative s → (k : ℕ) → T (not_negative (scale_of s.epf.sigma k))
unfolding scale_of lt of_bits
scale-not-negative s p zero = p.pass0
scale-not-negative s p (suc zero) = tt
scale-not-negative s p (suc (suc k)) = p.pass2

pub step-bounds : StepBounds
unfolding step_of
step-bounds n s k a g x y scales gain uncopied = (
  λ o. weight-bounds _ (kernel k) (dists k) standard_limit _ _ _ o limit-above uncopied gain scales,
  divisor-bounds k _ (dists k) standard_limit _ _ _ limit-above uncopied gain scales,
)

pub settings-bounds : SettingsBounds
unfolding step_of
settings-bounds n s k a g x y p =
    pass-bounds (settings_of n (step_of s k)) a.width a.height a.top a.sigma g x y limit-above (scales-not-negative s.epf.channel_scale p.channel 0 n) (scale-not-negative s p k) p.border

pub bounds-reached : BoundsReached
unfolding of_bits lt add sub mul div magnitude kernel dists along apart distance positive weight_by weight_at divisor
bounds-reached zero = (refl, refl)
bounds-reached (suc zero) = (refl, refl)
bounds-reached (suc (suc k)) = (refl, refl)
