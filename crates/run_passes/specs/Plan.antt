-- The passes of the settings (Specification 11.1, 12.2), and the margin (Specification 12.14). Definitions only.
use Rattle.std.specs.Prelude.{Bool, cond, not, ◌&&◌, List, [], ◌∷◌, ℕ, zero, suc, ◌+◌, ◌-◌, min, eqb, leb, ltb, take, Float, Result}
use Rattle.std.specs.Result.{result_unwrap_or}
use Rattle.refusals.specs.Numbers.{out_of_range}
use Rattle.refusals.specs.Checks.{Check, always, first_of}
use Rattle.refusals.specs.Flags.{flag_fits, flag_set}
use Rattle.refusals.specs.Refusals.{number_of}
use Rattle.refusals.specs.declared.Refusal.{Refusal}
use Rattle.planes.specs.Samples.{b1}
use Rattle.header_epf_sigma.specs.declared.EpfSigma.{EpfSigma}
use Rattle.epf.specs.declared.EpfStep.{EpfStep}
use Rattle.epf.specs.Outcome.{settings_of}
use Rattle.run_passes.specs.declared.Settings.{Settings}
use Rattle.run_passes.specs.declared.MarginAnswer.{MarginAnswer}
use Rattle.run_passes.specs.Pass.{Pass, gabor_like, edge_preserving}

-- the two settings that decide which passes there are: Gabor's flag and the iterations
abbrev pub gabor_fits : Settings → Bool
gabor_fits s = flag_fits s.gabor.enabled

abbrev pub gabor_on : Settings → Bool
gabor_on s = flag_set s.gabor.enabled

abbrev pub iterations_fit : Settings → Bool
iterations_fit s = leb s.epf.iters 3

abbrev pub one_if : Bool → ℕ
one_if b = cond b 1 0

-- a step's scale: `pass0_sigma_scale`, 1 or `pass2_sigma_scale`
unfoldable pub scale_of : EpfSigma → ℕ → Float
scale_of s zero = s.pass0_sigma_scale
scale_of s (suc zero) = b1
scale_of s (suc (suc k)) = s.pass2_sigma_scale

-- what step k reads of the settings
unfoldable pub step_of : Settings → ℕ → EpfStep
step_of s k = record { step = k; channel_scale = s.epf.channel_scale; multiplier = scale_of s.epf.sigma k; border_sad_mul = s.epf.sigma.border_sad_mul }

-- step k as a pass on n planes
abbrev pub step : ℕ → Settings → ℕ → Pass
step n s k = edge_preserving (settings_of n (step_of s k))

-- step 0 with three iterations, step 1 always, step 2 with two or three
unfoldable pub steps : ℕ → Settings → ℕ → List Pass
steps n s zero = []
steps n s (suc zero) = step n s 1 ∷ []
steps n s (suc (suc zero)) = step n s 1 ∷ step n s 2 ∷ []
steps n s (suc (suc (suc i))) = step n s 0 ∷ step n s 1 ∷ step n s 2 ∷ []

-- Gabor if it is on, then the steps, on n planes; each has only the weights or scales of the first n channels
unfoldable pub plan : ℕ → Settings → List Pass
plan n s = cond (gabor_on s) (gabor_like (take n s.gabor.weights) ∷ steps n s s.epf.iters) (steps n s s.epf.iters)

-- the number of passes, whatever the number of planes
abbrev pub pass_number : Settings → ℕ
pass_number s = one_if (gabor_on s) + min s.epf.iters 3

-- 0, 2, 3 or 6 for 0, 1, 2 or 3 iterations
unfoldable pub step_margin : ℕ → ℕ
step_margin zero = 0
step_margin (suc zero) = 2
step_margin (suc (suc zero)) = 3
step_margin (suc (suc (suc i))) = 6

-- the margin (Specification 12.14): 1 if Gabor is on, plus that of the iterations
abbrev pub margin : Settings → ℕ
margin s = one_if (gabor_on s) + step_margin s.epf.iters

-- 9 if Gabor's flag or the iterations are out of range; nothing else is checked
unfoldable pub margin_checks : Settings → List Check
margin_checks s = always out_of_range (not (gabor_fits s)) ∷ always out_of_range (not (iterations_fit s)) ∷ []

abbrev pub margin_number : Settings → ℕ
margin_number s = first_of (margin_checks s)

-- a refused call returns margin 0
unfoldable pub margin_outcome : Settings → MarginAnswer
margin_outcome s = record { number = margin_number s; margin = cond (eqb (margin_number s) 0) (margin s) 0 }

-- the number and the margin on the C boundary, margin 0 for a refusal
abbrev pub margin_answer : Result ℕ Refusal → MarginAnswer
margin_answer m = record { number = number_of m; margin = result_unwrap_or m 0 }

-- ---- the pass with a given number

-- Gabor comes first if it is on
unfoldable pub gabor_at : Settings → ℕ → Bool
gabor_at s p = gabor_on s && eqb p 0

-- the step of a pass that is not Gabor; step 2 for a number past the last
unfoldable pub step_index : Settings → ℕ → ℕ
step_index s p = min (p + one_if (ltb s.epf.iters 3) - one_if (gabor_on s)) 2
