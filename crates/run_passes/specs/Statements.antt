-- Statements about passes (Specification 12.14, 13.6): what and how far they read, and that a cut agrees with the larger picture.
-- proofs/Statements.antt proves them.
use Rattle.std.specs.Prelude.{◌≡◌, List, ℕ, ◌+◌, ◌<◌, take}
use Rattle.planes.specs.Picture.{Picture}
use Rattle.epf_step.specs.Steps.{scaled}
use Rattle.run_passes.specs.declared.Settings.{Settings}
use Rattle.run_passes.specs.Pass.{Area, Pass, pass, passes, reach, reaches}
use Rattle.run_passes.specs.Plan.{plan, margin}
use Rattle.run_passes.specs.Near.{IsSound, AgreeNear}
use Rattle.run_passes.specs.Cut.{Fits, SameBlocks, Agree, AllSound, SomeStep}

-- if two pictures agree within a pass's reach of a position, they agree there after the pass
abbrev pub PassNear : Type 0
PassNear = (n : ℕ) (p : Pass) → IsSound n p → (a : Area) (g G : Picture) (x y : ℕ) → x < a.width → y < a.height → AgreeNear n (reach p) a x y g G
    → (c : ℕ) → c < n → pass a p g c x y ≡ pass a p G c x y

-- if the pictures agree on the whole cut, they agree after the passes at each position that is as far from each cut edge as the passes read
abbrev pub CutSame : Type 0
CutSame = (n : ℕ) (a b : Area) (lx ly : ℕ) → Fits a b lx ly → (ps : List Pass) → AllSound n ps → (SomeStep ps → SameBlocks a b lx ly) → (g G : Picture)
    → ((c x y : ℕ) → c < n → x < a.width → y < a.height → g c x y ≡ G c (lx + x) (ly + y))
    → Agree n a b lx ly (reaches ps) (passes a ps g) (passes b ps G)

-- the margin is how far the passes of the settings read together
abbrev pub PlanReach : Type 0
PlanReach = (n : ℕ) (s : Settings) → reaches (plan n s) ≡ margin s

-- the passes on n planes read nothing else of the settings: not the weights and scales of further channels
abbrev pub PlanReads : Type 0
PlanReads = (n : ℕ) (s t : Settings)
    → s.gabor.enabled ≡ t.gabor.enabled → take n s.gabor.weights ≡ take n t.gabor.weights
    → s.epf.iters ≡ t.epf.iters → scaled n s.epf.channel_scale ≡ scaled n t.epf.channel_scale
    → s.epf.sigma.pass0_sigma_scale ≡ t.epf.sigma.pass0_sigma_scale → s.epf.sigma.pass2_sigma_scale ≡ t.epf.sigma.pass2_sigma_scale
    → s.epf.sigma.border_sad_mul ≡ t.epf.sigma.border_sad_mul
    → plan n s ≡ plan n t
