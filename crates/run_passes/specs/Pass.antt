-- A pass with everything that it reads of the settings, and passes one after another (Specification 12.2: Gabor, then the steps).
-- Definitions only.
use Rattle.std.specs.Prelude.{List, [], ◌∷◌, ℕ, ◌+◌, Float}
use Rattle.planes.specs.Picture.{Picture}
use Rattle.gabor_kernel.specs.Gabor.{gabor_pass}
use Rattle.epf_step.specs.Steps.{EpfPass, epf_pass, reach as step_reach}

-- the filter region of the passes: its sides, its top, and the sigma of each block by column and row
pub record Area : Type 0 where
  pub width : ℕ
  pub height : ℕ
  pub top : ℕ
  pub sigma : ℕ → ℕ → Float

-- everything that a pass reads of the settings
pub data Pass : Type 0 where
  gabor_like : List (List Float) → Pass
  edge_preserving : EpfPass → Pass

-- the sample after one pass (Specification 12.3)
unfoldable pub pass : Area → Pass → Picture → Picture
pass a (gabor_like weights) g = gabor_pass weights a.width a.height g
pass a (edge_preserving e) g = epf_pass e a.width a.height a.top a.sigma g

-- each pass over the whole filter region of the previous result
unfoldable pub passes : Area → List Pass → Picture → Picture
passes a [] g = g
passes a (p ∷ ps) g = passes a ps (pass a p g)

-- how far a pass reads in each direction
unfoldable pub reach : Pass → ℕ
reach (gabor_like weights) = 1
reach (edge_preserving e) = step_reach e.step

-- how far passes read together
unfoldable pub reaches : List Pass → ℕ
reaches [] = 0
reaches (p ∷ ps) = reach p + reaches ps
