-- A filter region cut from a larger one: where it lies, and when pictures agree. Definitions only.
use Rattle.std.specs.Prelude.{◌≡◌, List, [], ◌∷◌, ◌⊎◌, ℕ, ◌+◌, ◌*◌, ◌<◌, ◌≤◌}
use Rattle.mirror.specs.Cut.{Deep}
use Rattle.planes.specs.Picture.{Picture}
use Rattle.run_passes.specs.Pass.{Area, Pass}
use Rattle.run_passes.specs.Near.{IsSound, IsStep}

-- ---- a cut: area a lies in area b; its first column and row are column lx and row ly of b
pub record Fits (a b : Area) (lx ly : ℕ) : Type 0 where
  pub columns : lx + a.width ≤ b.width
  pub rows : ly + a.height ≤ b.height

-- What a step needs: both areas have the same row positions and start at multiples of 8, and the blocks of a have the same sigmas as in b.
pub record SameBlocks (a b : Area) (lx ly : ℕ) : Type 0 where
  pub bx : ℕ
  pub by : ℕ
  pub tops : a.top ≡ b.top + ly
  pub eight_x : lx ≡ 8 * bx
  pub eight_y : ly ≡ 8 * by
  pub sigmas : (x y : ℕ) → 8 * x < a.width → 8 * y < a.height → a.sigma x y ≡ b.sigma (bx + x) (by + y)

-- n planes agree at each position of a with at least k samples between it and each cut edge
abbrev pub Agree : ℕ → Area → Area → ℕ → ℕ → ℕ → Picture → Picture → Type 0
Agree n a b lx ly k g G = (c x y : ℕ) → c < n → Deep k lx a.width b.width x → Deep k ly a.height b.height y → g c x y ≡ G c (lx + x) (ly + y)

abbrev pub AllSound : ℕ → List Pass → Type 0
AllSound n [] = Unit {0}
AllSound n (p ∷ ps) = IsSound n p × AllSound n ps

-- whether a step is among the passes
abbrev pub SomeStep : List Pass → Type 0
SomeStep [] = ⊥
SomeStep (p ∷ ps) = IsStep p ⊎ SomeStep ps
