-- What the pass with a given number runs. Definitions only.
use Rattle.std.specs.Prelude.{cond, ℕ}
use Rattle.run_passes.specs.declared.Pass.{Pass}
use Rattle.run_passes.specs.declared.Pass.TheVariants.{Gabor, Edge}
use Rattle.run_passes.specs.declared.Settings.{Settings}
use Rattle.run_passes.specs.Plan.{gabor_at, step_index, step_of}

-- the Gabor-like filter or a step; step 2 for a number past the last
unfoldable pub pass_at : Settings → ℕ → Pass
pass_at s p = cond (gabor_at s p) (Gabor s.gabor.weights) (Edge (step_of s (step_index s p)))
